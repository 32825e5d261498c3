-- The spans so far were put.
use Rattle.std.proofs.Common.{◌≡◌, ℕ, List, ◌++◌, length}
use Rattle.span_seq.specs.Sequence.{bytes}
use Rattle.relay_engine.specs.Gathering.{Puts}
use Rattle.relay_engine.proofs.gathering.Gathering.put_spans.Given as goal

abbrev pub invariant-loop-first : goal.invariant-loop-first
invariant-loop-first g l = record {
  done : List ℕ;
  parts : bytes l.seq ≡ done ++ bytes l.rest;
  puts : Puts l.fn.self (g.K.Sink.state l.fn.sink) done l.self (g.K.Sink.state l.sink);
}

abbrev pub decreases-loop-first : goal.decreases-loop-first
decreases-loop-first g l = length (bytes l.rest)
