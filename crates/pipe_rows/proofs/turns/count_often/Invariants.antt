use Rattle.std.proofs.Common.{◌≡◌}
use Rattle.turn_cell.specs.Seat.{IsIdle}
use Rattle.pipe_rows.proofs.turns.count_often.Given as goal

abbrev pub invariant-loop : goal.invariant-loop
invariant-loop g l = IsIdle l.cell l.seat × (l.seat.number ≡ l.fn.seat.number)

abbrev pub invariant-loop-2 : goal.invariant-loop-2
invariant-loop-2 g l = IsIdle l.cell l.seat × (l.seat.number ≡ l.fn.seat.number)
