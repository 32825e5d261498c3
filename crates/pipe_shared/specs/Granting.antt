-- What the writer is granted.
use Rattle.std.specs.Prelude.{◌≡◌, ◌≢◌, ℕ, ◌<◌, ◌≤◌, ◌⊎◌, [], length, max}
use Rattle.pipe_state.specs.declared.options.Options.{Options}
use Rattle.pipe_state.specs.declared.full.Full.{Full}
use Rattle.pipe_state.specs.Full.{IsFull}
use Rattle.pipe_state.specs.Held.{HoldsRuns, PipeHeld}
use Rattle.pipe_state.specs.Writing.{WritingState}
use Rattle.pipe_shared.specs.declared.faults.RoomFault.{RoomFault}
use Rattle.pipe_shared.specs.declared.faults.RoomFault.TheVariants as room
use Rattle.pipe_turns.specs.Log.{calls_of}
use Rattle.pipe_turns.specs.Turns.{FindsHeld, Wins}
use Rattle.pipe_shared.specs.Ends.{Writer}

-- A segment from home is free as a whole, by an exchange that won the turn.
pub record GrantsAnew (options : Options) (hint n : ℕ) (old new : Writer) : Type 0 where
  pub short : length old.free < hint
  pub wins : Wins old.seat new.seat
  pub found : PipeHeld
  pub stands : HoldsRuns found (calls_of new.seat.seen)
  pub home : found.segments.home ≢ []
  pub whole : n ≡ options.segment
  pub greatest : new.hint ≡ max old.hint hint

-- The free part is long enough, and at most a segment, and the draft is as it was. Where it was long enough before, nothing has changed.
pub record Grants (options : Options) (hint n : ℕ) (old new : Writer) : Type 0 where
  pub small : hint ≤ options.segment
  pub enough : hint ≤ n
  pub at_most : n ≤ options.segment
  pub free : length new.free ≡ n
  pub draft : new.draft ≡ old.draft
  pub how : (hint ≤ length old.free) × (new ≡ old) ⊎ GrantsAnew options hint n old new

-- What was drafted and granted stays.
pub record Stays (old new : Writer) : Type 0 where
  pub draft : new.draft ≡ old.draft
  pub free : new.free ≡ old.free
  pub hint : new.hint ≡ old.hint

-- The exchange of a writer whose free part is too short found the turn held.
pub record FindsHeldFor (options : Options) (hint word : ℕ) (old new : Writer) : Type 0 where
  pub small : hint ≤ options.segment
  pub short : length old.free < hint
  pub finds : FindsHeld word old.seat new.seat

-- It won the turn, and no segment was at home: this is told of where they are, and so much at least is committed and not consumed, or drafted.
pub record FindsFull (options : Options) (hint : ℕ) (told : Full) (old new : Writer) : Type 0 where
  pub small : hint ≤ options.segment
  pub short : length old.free < hint
  pub wins : Wins old.seat new.seat
  pub found : PipeHeld
  pub stands : HoldsRuns found (calls_of new.seat.seen)
  pub part : WritingState
  pub draft : part.draft ≡ old.draft
  pub greatest : part.has.hint ≡ old.hint
  pub count : part.count ≡ options.segments
  pub size : part.size ≡ options.segment
  pub full : IsFull (max old.hint hint) told found part

-- how room is refused: what was drafted and granted stays
abbrev pub RefusesRoom : Options → ℕ → RoomFault → Writer → Writer → Type 0
RefusesRoom options hint (room.Busy word) old new = FindsHeldFor options hint word old new × Stays old new
RefusesRoom options hint (room.TooLarge asked segment) old new = (asked ≡ hint) × (segment ≡ options.segment) × (segment < hint) × (new ≡ old)
RefusesRoom options hint (room.Full told) old new = FindsFull options hint told old new × Stays old new
