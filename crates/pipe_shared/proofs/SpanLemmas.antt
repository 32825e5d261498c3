-- A lend that lies in one span.
use Rattle.std.proofs.Common.{◌≡◌, ℕ, List, [], ◌∷◌, ◌++◌, ◌-◌, length, ap, ◌∙◌, arith, append-nil}
use Rattle.std.proofs.lemmas.List.{take_all}
use Rattle.span_seq.specs.Spans.{bytes_of, size_of, whole_of}

pub one_span : (xs : List ℕ) → bytes_of (whole_of (xs ∷ [])) ≡ xs
one_span xs = take_all (length (xs ++ []) - 0) (xs ++ []) (omega arith) ∙ append-nil xs

pub one_size : (xs : List ℕ) → size_of (xs ∷ []) ≡ length xs
one_size xs = ap length (append-nil xs)
