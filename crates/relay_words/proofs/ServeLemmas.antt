-- What holds of a server that was read.
use Rattle.std.proofs.Common.{◌≡◌, ◌+◌, ◌≤◌, ◌<◌, ◌^◌, ℕ, Bool, true, false, List, [], ◌∷◌, length, Option, Some, None, Result, Ok, Err, refl, sym, subst, arith, if◌then◌else◌}
use Rattle.std.specs.Prelude.{IfOk}
use Rattle.frame_grammar.specs.Job.{IsInRange}
use Rattle.frame_grammar.specs.declared.job.Job.{Job}
use Rattle.frame_model.specs.declared.framing.Framing.{Framing}
use Rattle.relay_words.specs.declared.command.Command.{Command}
use Rattle.relay_words.specs.declared.command.Command.TheVariants.{Threaded}
use Rattle.relay_words.specs.declared.command.ThreadedCommand.TheVariants.{Serve}
use Rattle.relay_words.specs.Numbers.{number_of, number_within}
use Rattle.relay_words.specs.Words.{frames_made, framing_of, is_address, job_in, job_of, serve_between, serve_from, serve_in, serve_into, serve_to, serve_with}
use Rattle.relay_words.proofs.RangeLemmas.{in_range, limit_is, number_range}

ok_is : {T E : Type 0} (x y : T) → ◌≡◌ {A = Result T E} (Ok x) (Ok y) → x ≡ y
ok_is x y e = cc

-- What was read of the words behind the addresses.
pub record IsServed (command : Command) : Type 0 where
  pub count : ℕ
  pub job : Job
  pub is : command ≡ Threaded (Serve 1 2 count job)
  pub least : 1 ≤ count
  pub most : count ≤ 1000000
  pub in_range : IsInRange job
  pub limit : job.limit ≡ 2 ^ 40

with_job : (words : List (List ℕ)) (count : ℕ) (command : Command) (r : Result Job ℕ) → 1 ≤ count → count ≤ 1000000 → job_in words ≡ r → serve_with count r ≡ Ok command → IsServed command
with_job words count command (Err at) least most q e = absurd cc
with_job words count command (Ok job) least most q e =
    record { count = count; job = job; is = sym (ok_is _ _ e); least = least; most = most; in_range = in_range words job q; limit = limit_is words job q }

between : (input output : List ℕ) (words : List (List ℕ)) (command : Command) → serve_between input output words ≡ Ok command → IsServed command
between input output [] command e = absurd cc
between input output (word ∷ keys) command e = by (number_within 1 1000000 word) refl e
  where
    by : (o : Option ℕ) → number_within 1 1000000 word ≡ o → ◌≡◌ {A = Result Command ℕ} (elim o [ None ↦ Err 5 | Some count ↦ serve_with count (job_in (input ∷ output ∷ keys)) ]) (Ok command) → IsServed command
    by None q e = absurd cc
    by (Some count) q e =
        let range = number_range 1 1000000 (number_of word) count q in
        with_job (input ∷ output ∷ keys) count command (job_in (input ∷ output ∷ keys)) range.0 range.1 refl e

into : (input : List ℕ) (words : List (List ℕ)) (command : Command) → serve_into input words ≡ Ok command → IsServed command
into input [] command e = absurd cc
into input (output ∷ words) command e = by (framing_of output) e
  where
    by : (o : Option Framing) → ◌≡◌ {A = Result Command ℕ} (elim o [ None ↦ Err 4 | Some framing ↦ serve_between input output words ]) (Ok command) → IsServed command
    by None e = absurd cc
    by (Some framing) e = between input output words command e

from : (words : List (List ℕ)) (command : Command) → serve_from words ≡ Ok command → IsServed command
from [] command e = absurd cc
from (input ∷ words) command e = by (framing_of input) e
  where
    by : (o : Option Framing) → ◌≡◌ {A = Result Command ℕ} (elim o [ None ↦ Err 3 | Some framing ↦ serve_into input words ]) (Ok command) → IsServed command
    by None e = absurd cc
    by (Some framing) e = into input words command e

to : (words : List (List ℕ)) (command : Command) → serve_to words ≡ Ok command → IsServed command × (1 ≤ length words)
to [] command e = absurd cc
to (target ∷ words) command e = by (is_address target) e
  where
    by : (b : Bool) → ◌≡◌ {A = Result Command ℕ} (if b then serve_from words else Err 2) (Ok command) → IsServed command × (1 ≤ length (target ∷ words))
    by true e = (from words command e, omega arith)
    by false e = absurd cc

pub all : (words : List (List ℕ)) (command : Command) → serve_in words ≡ Ok command → IsServed command × (2 ≤ length words)
all [] command e = absurd cc
all (listen ∷ words) command e = by (is_address listen) e
  where
    by : (b : Bool) → ◌≡◌ {A = Result Command ℕ} (if b then serve_to words else Err 1) (Ok command) → IsServed command × (2 ≤ length (listen ∷ words))
    by true e = let read = to words command e in (read.0, omega (arith, read.1))
    by false e = absurd cc

pub served : (words : List (List ℕ)) (command : Command) → serve_in words ≡ Ok command → IsServed command
served words command e = (all words command e).0

-- ---- of the words behind `serve`

pub is_in_range : (words : List (List ℕ)) (r : Result Command ℕ) → r ≡ serve_in words → IfOk r (λ command. IsInRange (job_of command))
is_in_range words (Ok command) e = let s = served words command (sym e) in subst (λ (c : Command). IsInRange (job_of c)) (sym s.is) s.in_range
is_in_range words (Err at) e = tt

pub has_limit : (words : List (List ℕ)) (r : Result Command ℕ) → r ≡ serve_in words → IfOk r (λ command. (job_of command).limit ≡ 2 ^ 40)
has_limit words (Ok command) e = let s = served words command (sym e) in subst (λ (c : Command). (job_of c).limit ≡ 2 ^ 40) (sym s.is) s.limit
has_limit words (Err at) e = tt

pub makes_none : (words : List (List ℕ)) (r : Result Command ℕ) → r ≡ serve_in words → IfOk r (λ command. frames_made command ≤ 1000000)
makes_none words (Ok command) e = let s = served words command (sym e) in subst (λ (c : Command). frames_made c ≤ 1000000) (sym s.is) (omega arith)
makes_none words (Err at) e = tt
