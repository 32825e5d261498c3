-- What holds of both ends of a pipe for one thread.
use Rattle.std.specs.Prelude.{◌≤◌, List}
use Rattle.pipe_core.specs.History.{Call}
use Rattle.pipe_state.specs.Held.{HoldsRuns}
use Rattle.pipe_turns.specs.declared.faults.TryFault.{TryFault}
use Rattle.pipe_turns.specs.Name.{Name}
use Rattle.pipe_shared.specs.Local.{Local}
use Rattle.pipe_shared.specs.Made.{name_in}

-- It stands for a history, and its writer asked for no more than one byte at a time.
pub record HoldsLocal (p : Local) (h : List Call) : Type 0 where
  pub runs : HoldsRuns p.pipe h
  pub hint : p.hint ≤ 1

-- with which options and of which blocks it was made, and by which names its ends' parts are known
abbrev pub made_of : Local → Name
made_of p = name_in p.options p.pipe

-- Nobody else makes a call.
abbrev pub NoOthers : Call → Type 0
NoOthers call = ⊥

-- No call is refused.
abbrev pub RefusesNone : TryFault → Local → Local → Type 0
RefusesNone fault old new = ⊥
