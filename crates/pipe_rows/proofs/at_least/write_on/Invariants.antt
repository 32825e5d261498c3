use Rattle.turn_cell.specs.Seat.{IsOf}
use Rattle.pipe_rows.proofs.at_least.write_on.Given as goal

abbrev pub invariant-loop : goal.invariant-loop
invariant-loop g l = IsOf l.pipe l.w.seat
