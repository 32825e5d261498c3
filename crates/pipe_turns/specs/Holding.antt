-- What a seat has to know before it makes a step, and while it holds the turn.
use Rattle.std.specs.Prelude.{◌≡◌, ◌<◌, None}
use Rattle.turn_cell.specs.Seat.{CellState, HeldState, Takes}
use Rattle.pipe_core.specs.History.{writer_end, reader_end}
use Rattle.pipe_turns.specs.Name.{Name}
use Rattle.pipe_turns.specs.declared.state.SharedPipe.{SharedPipe}
use Rattle.pipe_turns.specs.Log.{calls_of}
use Rattle.pipe_turns.specs.State.{Keeps, name_of}
use Rattle.pipe_turns.specs.Turns.{Seat, worn_at}
use Rattle.pipe_turns.specs.Ends.{IsEnd}

-- The seat has the turn and holds the state of this cell, and the history takes more entries.
pub record HasTurn (cell : CellState Name) (old : Seat) (held : HeldState SharedPipe) (new : Seat) : Type 0 where
  pub takes : Takes Keeps old held new
  pub named : name_of held.state ≡ cell.name
  pub unworn : held.entries < worn_at

-- The seat is that of a writer that has not completed.
pub record GoesOn (seat : Seat) : Type 0 where
  pub end : IsEnd 0 seat
  pub going : writer_end (calls_of seat.seen) ≡ None

-- The seat is that of a reader that has not completed.
pub record Attends (seat : Seat) : Type 0 where
  pub end : IsEnd 1 seat
  pub attended : reader_end (calls_of seat.seen) ≡ None
