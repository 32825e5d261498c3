use Rattle.turn_cell.specs.Seat.{IsOf}
use Rattle.pipe_rows.proofs.shared.cancel_often.Given as goal

abbrev pub invariant-loop : goal.invariant-loop
invariant-loop l = IsOf l.pipe l.k
