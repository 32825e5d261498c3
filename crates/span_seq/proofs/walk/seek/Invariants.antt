-- The place that is sought stays the same.
use Rattle.std.proofs.Common.{◌≡◌}
use Rattle.span_seq.specs.Spans.{place_of}
use Rattle.span_seq.proofs.walk.seek.Given as goal

abbrev pub invariant-loop-at : goal.invariant-loop-at
invariant-loop-at g l = place_of (g.C.Spans.spans l.spans) l.at l.skip ≡ place_of (g.C.Spans.spans l.spans) l.index l.offset
