-- What is sent to the reader.
use Rattle.std.specs.Prelude.{◌≡◌, Bool, true, not, is_some, List, [], ◌∷◌, ◌++◌}
use Rattle.pipe_state.specs.Fetched.{Fetched, Fits, arrived}
use Rattle.pipe_state.specs.Sides.{FillingState, going_of, unfinished_of}
use Rattle.pipe_state.specs.declared.arrival.Arrival.{Arrival}

-- the segment once its draft is committed
abbrev pub committed_in : FillingState → Bool → Fetched
committed_in f finished = record { label = f.label; bytes = f.bytes ++ f.draft; finished = finished }

-- the same segment, as the writer has it
abbrev pub with_committed : FillingState → FillingState
with_committed f = record f { bytes = f.bytes ++ f.draft; draft = []; sent = true }

-- Behind segments that are finished, the arrival tells what has become of this one.
pub record Tells (f : FillingState) (segment : Fetched) (a : Arrival) : Type 0 where
  pub fits : (before : List Fetched) → Fits (before ++ going_of (unfinished_of f ∷ [])) a.front a.mark a.end
  pub then : (before : List Fetched) → arrived (before ++ going_of (unfinished_of f ∷ [])) a.front a.mark a.end ≡ before ++ segment ∷ []
  pub fronted : is_some a.front ≡ not f.sent
