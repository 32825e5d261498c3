use Rattle.turn_cell.specs.Seat.{IsOf}
use Rattle.pipe_rows.proofs.shared.write_numbered.Given as goal

abbrev pub invariant-loop-i : goal.invariant-loop-i
invariant-loop-i g l = IsOf l.pipe l.w.seat
