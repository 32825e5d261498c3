-- The ends of a new pipe.
use Rattle.std.specs.Prelude.{[], None}
use Rattle.turn_cell.specs.Seat.{CellState, new_seat}
use Rattle.pipe_turns.specs.Name.{Name}
use Rattle.pipe_shared.specs.Ends.{Reader, Writer}
use Rattle.pipe_shared.specs.Made.{no_chain}

abbrev pub new_writer : CellState Name → Writer
new_writer cell = record { seat = new_seat cell 0; draft = []; free = []; hint = 0 }

abbrev pub new_reader : CellState Name → Reader
new_reader cell = record { seat = new_seat cell 1; lent = None; chain = no_chain cell.name.options.segments }
