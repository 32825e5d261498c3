-- Where a call failed, the frames are counted that came to the sink.
use Rattle.std.proofs.Common.{arith}
use Rattle.span_seq.specs.Sequence.{bytes}
use Rattle.relay_engine.proofs.WriteLemmas.{broken}
use Rattle.relay_engine.proofs.frames.write_lent.Goals as goal

pub returns-in-Err-clause-failed : goal.returns-in-Err-clause-failed
returns-in-Err-clause-failed g c =
    let stops = rw (← c.passed-written.ensures) at c.in-Err.ensures.failed in
    broken c.args.job.now (bytes c.args.lent.now) c.args.at_end _ _ c.passed-written.result c.whole_frames.result _ stops c.whole_frames.ensures (omega (arith, c.min.ensures, c.from.ensures))
