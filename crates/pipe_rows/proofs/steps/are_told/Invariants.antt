use Rattle.turn_cell.specs.Seat.{IsOf}
use Rattle.pipe_rows.proofs.steps.are_told.Given as goal

abbrev pub invariant-loop-step : goal.invariant-loop-step
invariant-loop-step l = IsOf l.pipe l.w.seat × IsOf l.pipe l.r.seat
