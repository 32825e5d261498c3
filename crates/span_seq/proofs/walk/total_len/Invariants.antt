-- The total so far is that of the spans that were passed.
use Rattle.std.proofs.Common.{◌≡◌, take}
use Rattle.span_seq.specs.Spans.{size_of}
use Rattle.span_seq.proofs.walk.total_len.Given as goal

abbrev pub invariant-loop-index : goal.invariant-loop-index
invariant-loop-index g l = l.total ≡ size_of (take l.index (g.C.Spans.spans l.spans))
