-- What a test of texts says of the words.
use Rattle.std.proofs.Common.{◌≡◌, ◌+◌, ℕ, Bool, ◌||◌, List, [], ◌∷◌, refl, ap, cond}
use Rattle.std.specs.Prelude.{String, string_bytes}
use Rattle.std.specs.List.{list_any, prefix_len}
use Rattle.std.specs.declared.alloc.Global.{Global}
use Rattle.relay_words.specs.Words.{texts}

pub any_text : (test : List ℕ → Bool) (words : List (String Global)) → list_any (λ word. test (string_bytes word)) words ≡ list_any test (texts words)
any_text test [] = refl
any_text test (word ∷ words) = ap (λ (b : Bool). test (string_bytes word) || b) (any_text test words)

pub front_texts : (test : List ℕ → Bool) (words : List (String Global)) → prefix_len (λ word. test (string_bytes word)) words ≡ prefix_len test (texts words)
front_texts test [] = refl
front_texts test (word ∷ words) = ap (λ (n : ℕ). cond (test (string_bytes word)) (1 + n) 0) (front_texts test words)
