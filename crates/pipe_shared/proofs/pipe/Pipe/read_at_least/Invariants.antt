use Rattle.std.specs.Prelude.{IsNone}
use Rattle.turn_cell.specs.Seat.{IsOf}
use Rattle.pipe_shared.specs.Waiting.{Tried}
use Rattle.pipe_shared.specs.Attempts.{TriesRead, waits_to_read}
use Rattle.pipe_shared.proofs.pipe.Pipe.read_at_least.Given as goal

-- so far the reads were to be tried again
abbrev pub invariant-loop : goal.invariant-loop
invariant-loop g l = record {
  pipe : IsOf l.self l.r.seat;
  no_lend : IsNone l.r.lent;
  tried : Tried (TriesRead l.self.name.options l.n) waits_to_read l.fn.r l.r;
}
