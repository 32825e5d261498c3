-- A step back over a span.
use Rattle.std.proofs.Common.{◌-◌, ◌<◌, length, get_or, [], arith, ap}
use Rattle.span_seq.proofs.SpanLemmas.{index_in, not_at_first, size_before}
use Rattle.span_seq.proofs.walk.seek_back.Goals as goal

pub overflow_sub-index : goal.overflow_sub-index
overflow_sub-index g c =
    let i = c.loop-ahead.invariant in
    not_at_first (g.C.Spans.spans c.args.spans.now) c.loop-ahead.index c.loop-ahead.ahead (omega (arith, i.ahead, c.requires.within))

pub span-ahead-requires : goal.span-ahead-requires
span-ahead-requires g c =
    let some = not_at_first (g.C.Spans.spans c.args.spans.now) c.loop-ahead.index c.loop-ahead.ahead (omega (arith, c.loop-ahead.invariant.ahead, c.requires.within)) in
    omega (arith, c.loop-ahead.invariant.index_within)

pub loop-ahead-smaller : goal.loop-ahead-smaller
loop-ahead-smaller g c =
    let some = not_at_first (g.C.Spans.spans c.args.spans.now) c.loop-ahead.index c.loop-ahead.ahead (omega (arith, c.loop-ahead.invariant.ahead, c.requires.within)) in
    omega arith

pub loop-ahead-preserved : goal.loop-ahead-preserved
loop-ahead-preserved g c =
    let spans = g.C.Spans.spans c.args.spans.now in
    let index = c.loop-ahead.index in
    let i = c.loop-ahead.invariant in
    let some = not_at_first spans index c.loop-ahead.ahead (omega (arith, i.ahead, c.requires.within)) in
    let len = ap length c.span-ahead.ensures in
    let back = size_before spans index some i.index_within in
    record {
      ahead = omega (arith, i.ahead);
      some = omega arith;
      index_within = omega (arith, i.index_within);
      skip_within = omega arith;
    }

pub returns : goal.returns
returns g c =
    let i = c.loop-ahead.invariant in
    let within : c.loop-ahead.ahead - c.loop-ahead.left < length (get_or (g.C.Spans.spans c.args.spans.now) c.loop-ahead.index []) = omega (arith, i.some, i.skip_within) in
    record {
      found = omega (arith, i.ahead, c.requires.within);
      index_within = index_in (g.C.Spans.spans c.args.spans.now) c.loop-ahead.index (c.loop-ahead.ahead - c.loop-ahead.left) within;
      skip_within = within;
    }
