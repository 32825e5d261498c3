-- The source's bytes are those that were committed, and the sink's those that the drainer wrote.
use Rattle.std.specs.Prelude.{◌≡◌, IsNone, None}
use Rattle.relay_engine.specs.LocalEnds.{made_of}
use Rattle.relay_engine.proofs.PumpLemmas.{Pumps, fuel}
use Rattle.relay_engine.proofs.pump.pump.Given as goal

abbrev pub invariant-loop-filling : goal.invariant-loop-filling
invariant-loop-filling g l = record {
  pumps : Pumps l.job (g.S.Source.state l.fn.source) (g.S.Source.state l.source) (g.K.Sink.state l.fn.sink) (g.K.Sink.state l.sink) l.filling l.draining l.pipe l.ending;
  attended : IsNone l.pipe.pipe.control.gone;
  no_lend : l.pipe.pipe.control.lent ≡ None;
  made : made_of l.pipe ≡ made_of l.fn.pipe;
}

abbrev pub decreases-loop-filling : goal.decreases-loop-filling
decreases-loop-filling g l = fuel l.filling l.pipe l.ending
