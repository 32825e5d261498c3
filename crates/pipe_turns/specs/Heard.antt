-- What an end hears of the others by a call.
use Rattle.std.specs.Prelude.{◌≡◌, ◌≢◌, ℕ, List, ◌++◌}
use Rattle.std.specs.List.{AllByRecursion}
use Rattle.pipe_core.specs.History.{Call, seat_of}
use Rattle.pipe_core.specs.Legal.{IsLegal}
use Rattle.pipe_core.specs.Answers.{Answer, answer_at_once}
use Rattle.pipe_state.specs.declared.options.Options.{Options}

-- none of these calls is made from the seat of this number
abbrev pub AreOfOthers : ℕ → List Call → Type 0
AreOfOthers number calls = AllByRecursion (λ call. seat_of call ≢ number) calls

-- A seat that had seen these calls has now seen others' calls behind them.
pub record Hears (number : ℕ) (before after : List Call) : Type 0 where
  pub heard : List Call
  pub others : AreOfOthers number heard
  pub seen : after ≡ heard ++ before

-- A seat that had seen these calls made more, the latest first, behind others' calls, and was answered as it is to be there.
pub record CallsBehind (options : Options) (number : ℕ) (before : List Call) (calls : List Call) (answer : Answer) (after : List Call) : Type 0 where
  pub heard : List Call
  pub others : AreOfOthers number heard
  pub told : answer ≡ answer_at_once options.pause options.resume calls (heard ++ before)
  pub seen : after ≡ calls ++ (heard ++ before)
  pub legal : IsLegal after
