-- What the turn of a writer finds that asks for another segment.
use Rattle.std.specs.Prelude.{◌≡◌, ◌≢◌, ℕ, [], length, max, Result, Ok, Err}
use Rattle.pipe_state.specs.declared.options.Options.{Options}
use Rattle.pipe_state.specs.declared.full.Full.{Full}
use Rattle.pipe_state.specs.Full.{IsFull}
use Rattle.pipe_state.specs.Held.{HoldsRuns, PipeHeld}
use Rattle.pipe_state.specs.Writing.{WritingState}
use Rattle.pipe_turns.specs.Log.{calls_of}
use Rattle.pipe_turns.specs.Turns.{Seat, Wins}

-- In the state that was found a segment was at home, which is free as a whole, or none was, and this is told of where they are.
abbrev pub Answers : Options → ℕ → PipeHeld → Result ℕ Full → WritingState → WritingState → Type 0
Answers options hint found (Ok n) old new =
    (found.segments.home ≢ []) × (n ≡ options.segment) × (length new.free ≡ n) × (new ≡ record old { free = new.free; has = new.has }) × (new.has.hint ≡ max old.has.hint hint)
Answers options hint found (Err told) old new = IsFull (max old.has.hint hint) told found old × (new ≡ old)

-- The turn was won, by a state that stands for all that was seen, and this was answered there.
pub record FindsRoom (options : Options) (hint : ℕ) (answer : Result ℕ Full) (old : Seat) (part : WritingState) (new : Seat) (part' : WritingState) : Type 0 where
  pub wins : Wins old new
  pub found : PipeHeld
  pub stands : HoldsRuns found (calls_of new.seen)
  pub answers : Answers options hint found answer part part'
