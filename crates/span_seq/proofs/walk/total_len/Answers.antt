-- A span more.
use Rattle.std.proofs.Common.{length, arith, ap}
use Rattle.span_seq.proofs.SpanLemmas.{size_more, size_more_le}
use Rattle.span_seq.proofs.walk.total_len.Goals as goal

pub overflow_add-total : goal.overflow_add-total
overflow_add-total g c =
    let len = ap length c.span.ensures in
    omega (arith, size_more_le (g.C.Spans.spans c.args.spans.now) c.loop-index.index (omega arith), c.loop-index.invariant)

pub loop-index-preserved : goal.loop-index-preserved
loop-index-preserved g c =
    let len = ap length c.span.ensures in
    omega (arith, size_more (g.C.Spans.spans c.args.spans.now) c.loop-index.index (omega arith), c.loop-index.invariant)
