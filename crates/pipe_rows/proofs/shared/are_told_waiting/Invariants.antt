use Rattle.turn_cell.specs.Seat.{IsOf}
use Rattle.pipe_rows.proofs.shared.are_told_waiting.Given as goal

abbrev pub invariant-loop-call : goal.invariant-loop-call
invariant-loop-call g l = IsOf l.pipe l.w.seat × IsOf l.pipe l.r.seat
