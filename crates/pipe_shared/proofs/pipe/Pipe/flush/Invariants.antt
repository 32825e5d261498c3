use Rattle.turn_cell.specs.Seat.{IsOf}
use Rattle.pipe_shared.specs.Waiting.{Tried}
use Rattle.pipe_shared.specs.Attempts.{TriesFlush, waits_to_flush}
use Rattle.pipe_shared.proofs.pipe.Pipe.flush.Given as goal

-- so far the flushes were to be tried again
abbrev pub invariant-loop : goal.invariant-loop
invariant-loop g l = record {
  pipe : IsOf l.self l.w.seat;
  tried : Tried (TriesFlush l.self.name.options) waits_to_flush l.fn.w l.w;
}
