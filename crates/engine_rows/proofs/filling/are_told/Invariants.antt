use Rattle.turn_cell.specs.Seat.{IsIdle, IsOf}
use Rattle.engine_rows.proofs.filling.are_told.Given as goal

abbrev pub invariant-loop-told : goal.invariant-loop-told
invariant-loop-told g l = IsIdle l.pipe l.filler.end.seat × IsOf l.pipe l.reader.seat
