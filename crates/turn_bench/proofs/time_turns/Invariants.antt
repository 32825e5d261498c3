use Rattle.turn_cell.specs.Seat.{IsIdle}
use Rattle.turn_bench.proofs.time_turns.Given as goal

abbrev pub invariant-loop : goal.invariant-loop
invariant-loop g l = IsIdle l.cell l.seat
