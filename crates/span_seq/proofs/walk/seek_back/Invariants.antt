-- The place that was reached lies as far ahead of the one that is sought as is left to go.
use Rattle.std.proofs.Common.{◌≡◌, ◌+◌, ◌≤◌, ◌<◌, length, get_or, []}
use Rattle.span_seq.specs.Spans.{place_of}
use Rattle.span_seq.proofs.walk.seek_back.Given as goal

abbrev pub invariant-loop-ahead : goal.invariant-loop-ahead
invariant-loop-ahead g l = let spans = g.C.Spans.spans l.spans in record {
  ahead : place_of spans l.index l.ahead + l.count ≡ place_of spans l.fn.from.index l.fn.from.skip + l.left;
  some : 0 < l.left;
  index_within : l.index ≤ length spans;
  skip_within : l.ahead ≤ length (get_or spans l.index []);
}

abbrev pub decreases-loop-ahead : goal.decreases-loop-ahead
decreases-loop-ahead g l = l.index
