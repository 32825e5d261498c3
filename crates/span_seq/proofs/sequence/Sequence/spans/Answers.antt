-- The spans of a part are its bytes, and none is empty.
use Rattle.span_seq.specs.Sequence.{part}
use Rattle.span_seq.proofs.SpanLemmas.{spans_are_bytes, spans_are_filled}
use Rattle.span_seq.proofs.sequence.Sequence.spans.Goals as goal

pub returns-clause-bytes : goal.returns-clause-bytes
returns-clause-bytes g c = spans_are_bytes (part c.args.self.now)

pub returns-clause-some : goal.returns-clause-some
returns-clause-some g c = spans_are_filled (part c.args.self.now)
