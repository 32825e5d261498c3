use Rattle.turn_cell.specs.Seat.{IsIdle}
use Rattle.turn_bench.proofs.least_times.Given as goal

abbrev pub invariant-loop : goal.invariant-loop
invariant-loop g l = IsIdle l.cell l.seat
