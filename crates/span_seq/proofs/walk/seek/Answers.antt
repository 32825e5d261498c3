-- A span passed.
use Rattle.std.proofs.Common.{length, arith, ap}
use Rattle.span_seq.proofs.SpanLemmas.{size_more}
use Rattle.span_seq.proofs.walk.seek.Goals as goal

pub loop-at-preserved : goal.loop-at-preserved
loop-at-preserved g c =
    let len = ap length c.span.ensures in
    omega (arith, size_more (g.C.Spans.spans c.args.spans.now) c.loop-at.at (omega arith), c.loop-at.invariant)
