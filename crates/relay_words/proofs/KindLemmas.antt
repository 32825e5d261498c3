-- What holds of a command that was read, by its kind.
use Rattle.std.proofs.Common.{◌≡◌, ℕ, ◌+◌, List, [], ◌∷◌, Option, Some, None, Result, Ok, Err, subst}
use Rattle.frame_grammar.specs.declared.job.Job.{Job}
use Rattle.relay_words.specs.declared.command.Command.{Command}
use Rattle.relay_words.specs.declared.command.Command.TheVariants.{Local, Threaded}
use Rattle.relay_words.specs.declared.command.LocalCommand.TheVariants.{Copy}
use Rattle.relay_words.specs.declared.command.ThreadedCommand.TheVariants.{Pump, Drill}
use Rattle.relay_words.specs.declared.command.Kind.{Kind}
use Rattle.relay_words.specs.declared.command.Kind.TheVariants as kinds
use Rattle.relay_words.specs.Numbers.{number_within}
use Rattle.relay_words.specs.Words.{batch_in, command_of, command_with, drill_from, drill_in, drill_with, job_in, kind_of, serve_in}

ok_is : {T E : Type 0} (x y : T) → ◌≡◌ {A = Result T E} (Ok x) (Ok y) → x ≡ y
ok_is x y e = cc

-- It holds of the commands that open no devices.
pub record Others (Q : Command → Type 0) : Type 0 where
  pub copy : (job : Job) → Q (Local (Copy job))
  pub pump : (job : Job) → Q (Threaded (Pump job))
  pub drill : (seed count : ℕ) (job : Job) → Q (Threaded (Drill seed count job))

module _ (Q : Command → Type 0) (others : Others Q) where
  copied : (r : Result Job ℕ) (command : Command) → ◌≡◌ {A = Result Command ℕ} (elim r [ Ok job ↦ Ok (Local (Copy job)) | Err at ↦ Err at ]) (Ok command) → Q command
  copied (Ok job) command e = subst Q (ok_is _ _ e) (others.copy job)
  copied (Err at) command e = absurd cc

  pumped : (r : Result Job ℕ) (command : Command) → ◌≡◌ {A = Result Command ℕ} (elim r [ Ok job ↦ Ok (Threaded (Pump job)) | Err at ↦ Err at ]) (Ok command) → Q command
  pumped (Ok job) command e = subst Q (ok_is _ _ e) (others.pump job)
  pumped (Err at) command e = absurd cc

  drilled_with : (seed count : ℕ) (r : Result Job ℕ) (command : Command) → drill_with seed count r ≡ Ok command → Q command
  drilled_with seed count (Ok job) command e = subst Q (ok_is _ _ e) (others.drill seed count job)
  drilled_with seed count (Err at) command e = absurd cc

  drilled_from : (seed : ℕ) (words : List (List ℕ)) (command : Command) → drill_from seed words ≡ Ok command → Q command
  drilled_from seed [] command e = absurd cc
  drilled_from seed (word ∷ words) command e = by (number_within 0 1000000 word) e
    where
      by : (o : Option ℕ) → ◌≡◌ {A = Result Command ℕ} (elim o [ None ↦ Err 2 | Some count ↦ drill_with seed count (job_in words) ]) (Ok command) → Q command
      by None e = absurd cc
      by (Some count) e = drilled_with seed count (job_in words) command e

  drilled : (words : List (List ℕ)) (command : Command) → drill_in words ≡ Ok command → Q command
  drilled [] command e = absurd cc
  drilled (word ∷ words) command e = by (number_within 0 4294967295 word) e
    where
      by : (o : Option ℕ) → ◌≡◌ {A = Result Command ℕ} (elim o [ None ↦ Err 1 | Some seed ↦ drill_from seed words ]) (Ok command) → Q command
      by None e = absurd cc
      by (Some seed) e = drilled_from seed words command e

  of_kind : (kind : Kind) (words : List (List ℕ)) (command : Command) → (batch_in words ≡ Ok command → Q command) → (serve_in words ≡ Ok command → Q command) → command_with kind words ≡ Ok command → Q command
  of_kind kinds.Copy words command b s e = copied (job_in words) command e
  of_kind kinds.Pump words command b s e = pumped (job_in words) command e
  of_kind kinds.Drill words command b s e = drilled words command e
  of_kind kinds.Batch words command b s e = b e
  of_kind kinds.Serve words command b s e = s e

  -- and of a batch and of a server, by the words behind their command
  pub of_words : (word : List ℕ) (words : List (List ℕ)) (command : Command) → (batch_in words ≡ Ok command → Q command) → (serve_in words ≡ Ok command → Q command) → command_of (word ∷ words) ≡ Ok command → Q command
  of_words word words command b s e = by (kind_of word) e
    where
      by : (o : Option Kind) → ◌≡◌ {A = Result Command ℕ} (elim o [ None ↦ Err 0 | Some kind ↦ command_with kind words ]) (Ok command) → Q command
      by None e = absurd cc
      by (Some kind) e = of_kind kind words command b s e
