use Rattle.turn_cell.specs.Seat.{IsOf}
use Rattle.pipe_rows.proofs.scripts.are_answered_alike.Given as goal

abbrev pub invariant-loop : goal.invariant-loop
invariant-loop l = IsOf l.pipe l.w.seat × IsOf l.pipe l.r.seat
