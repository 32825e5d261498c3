-- What is always so of an end of a pipe.
use Rattle.std.specs.Prelude.{◌≡◌, ℕ, ◌≤◌, false}
use Rattle.turn_cell.specs.History.{entries_of}
use Rattle.pipe_state.specs.Fetched.{all_fetched}
use Rattle.pipe_state.specs.Segments.{AreOf}
use Rattle.pipe_state.specs.Writing.{WritingState}
use Rattle.pipe_state.specs.declared.reading.Reading.{Reading}
use Rattle.pipe_turns.specs.Name.{Name}
use Rattle.pipe_turns.specs.Log.{IsLawful}
use Rattle.pipe_turns.specs.Turns.{Seat}

-- An end has the seat of this number, which doesn't hold the turn, whose own entries are those that it has in what was seen, and what was seen is lawful.
pub record IsEnd (number : ℕ) (seat : Seat) : Type 0 where
  pub numbered : seat.number ≡ number
  pub idle : seat.holds ≡ false
  pub own : entries_of number seat.seen ≡ seat.own
  pub lawful : IsLawful seat.seen

-- The part of a writer belongs to the pipe of this name.
pub record WritesFor (name : Name) (part : WritingState) : Type 0 where
  pub pair : part.name ≡ name.writer
  pub size : part.size ≡ name.options.segment
  pub count : part.count ≡ name.options.segments

-- The part of a reader belongs to the pipe of this name, has room for all its segments, and has segments of its blocks alone.
pub record ReadsFor (name : Name) (part : Reading) : Type 0 where
  pub pair : part.half.name ≡ name.reader
  pub room : name.options.segments ≤ part.chain.capacity
  pub blocks : AreOf name.blocks (all_fetched part.chain.links)
