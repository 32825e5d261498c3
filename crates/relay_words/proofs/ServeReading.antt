-- What all words of a server say.
use Rattle.std.proofs.Common.{◌≡◌, ◌≤◌, ◌<◌, ℕ, List, [], ◌∷◌, length, Ok, refl, sym, subst, arith}
use Rattle.std.specs.Prelude.{String}
use Rattle.std.specs.declared.alloc.Global.{Global}
use Rattle.frame_grammar.specs.declared.job.Job.{Job}
use Rattle.relay_words.specs.declared.command.Command.{Command}
use Rattle.relay_words.specs.Words.{IfServe, batch_in, command_of, serve_in, texts}
use Rattle.relay_words.proofs.BatchLemmas.{batched}
use Rattle.relay_words.proofs.KindLemmas.{Others, of_words}
use Rattle.relay_words.proofs.RangeLemmas.{texts_len}
use Rattle.relay_words.proofs.ServeLemmas.{all}

no_serve : (P : ℕ → ℕ → ℕ → Job → Type 0) → Others (λ command. IfServe command P)
no_serve P = record { copy = λ job. tt; pump = λ job. tt; drill = λ seed count job. tt }

-- it holds of a server whose two addresses are there
served_as : (P : ℕ → ℕ → ℕ → Job → Type 0) (words : List (List ℕ)) (command : Command)
    → (2 < length words → (count : ℕ) (job : Job) → 1 ≤ count → count ≤ 1000000 → P 1 2 count job) → command_of words ≡ Ok command → IfServe command P
served_as P [] command so e = absurd cc
served_as P (word ∷ words) command so e = of_words (λ command. IfServe command P) (no_serve P) word words command is_batch is_serve e
  where
    is_batch : batch_in words ≡ Ok command → IfServe command P
    is_batch q = let b = batched words command q in subst (λ (c : Command). IfServe c P) (sym b.is) tt

    is_serve : serve_in words ≡ Ok command → IfServe command P
    is_serve q =
        let read = all words command q in
        subst (λ (c : Command). IfServe c P) (sym read.0.is) (so (omega (arith, read.1)) read.0.count read.0.job read.0.least read.0.most)

pub has_addresses : (words : List (String Global)) (command : Command) → command_of (texts words) ≡ Ok command → IfServe command (λ listen target count job. (listen ≡ 1) × (target ≡ 2) × (2 < length words))
has_addresses words command e =
    served_as (λ listen target count job. (listen ≡ 1) × (target ≡ 2) × (2 < length words)) (texts words) command
    (λ many count job least most. (refl, refl, omega (arith, many, texts_len words))) e

pub has_connections : (words : List (List ℕ)) (command : Command) → command_of words ≡ Ok command → IfServe command (λ listen target count job. (1 ≤ count) × (count ≤ 1000000))
has_connections words command e =
    served_as (λ listen target count job. (1 ≤ count) × (count ≤ 1000000)) words command (λ many count job least most. (least, most)) e
