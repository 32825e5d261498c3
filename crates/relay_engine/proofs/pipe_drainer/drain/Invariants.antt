-- So far the sink has what the steps have written.
use Rattle.std.specs.Prelude.{IsSomeAnd}
use Rattle.turn_cell.specs.Seat.{IsIdle}
use Rattle.relay_engine.specs.SoFar.{WroteSoFar}
use Rattle.relay_engine.proofs.pipe_drainer.drain.Given as goal

abbrev pub invariant-loop : goal.invariant-loop
invariant-loop g l = record {
  pipe : IsSomeAnd l.drainer.end (λ r. IsIdle l.pipe r.seat);
  written : WroteSoFar l.fn.drainer.draining.drained.job (g.K.Sink.state l.fn.sink) l.drainer (g.K.Sink.state l.sink);
}
