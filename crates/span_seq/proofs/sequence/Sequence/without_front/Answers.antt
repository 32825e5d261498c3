-- The bytes behind the first ones.
use Rattle.std.proofs.Common.{arith}
use Rattle.span_seq.proofs.SpanLemmas.{behind_of_part, length-part}
use Rattle.span_seq.proofs.sequence.Sequence.without_front.Goals as goal

pub returns-clause-bytes : goal.returns-clause-bytes
returns-clause-bytes g c =
    let s = c.args.self.now in
    let spans = g.C.Spans.spans s.spans.now in
    behind_of_part spans s.from s.len c.args.count (omega (arith, length-part spans s.from s.len s.within))
