-- What was written so far is what stands before the rest. An empty piece makes no call.
use Rattle.std.proofs.Common.{◌≡◌, [], ◌++◌, List, ℕ, length}
use Rattle.edge_core.specs.Device.{Takes}
use Rattle.edge_core.proofs.writing.write_all.Given as goal

abbrev pub invariant-loop-rest : goal.invariant-loop-rest
invariant-loop-rest g l = record {
  done : List ℕ;
  parts : l.piece ≡ done ++ l.rest;
  taken : Takes (g.K.Sink.state l.fn.sink) done (g.K.Sink.state l.sink);
  uncalled : l.piece ≡ [] → l.sink ≡ l.fn.sink;
}

abbrev pub decreases-loop-rest : goal.decreases-loop-rest
decreases-loop-rest g l = length l.rest
