use Rattle.std.specs.Prelude.{◌≡◌}
use Rattle.turn_cell.specs.Seat.{IsOf}
use Rattle.pipe_core.specs.History.{Advance}
use Rattle.pipe_shared.specs.Waiting.{Tried}
use Rattle.pipe_shared.specs.Attempts.{TriesToEnd, waits_for_turn}
use Rattle.pipe_shared.proofs.pipe.Pipe.advance.Given as goal

-- so far the advances were to be tried again, and the lend stands
abbrev pub invariant-loop : goal.invariant-loop
invariant-loop g l = record {
  pipe : IsOf l.self l.r.seat;
  lent : l.r.lent ≡ l.fn.r.lent;
  tried : Tried (TriesToEnd l.self.name.options (Advance l.c l.e)) waits_for_turn l.fn.r l.r;
}
