-- The first span has all bytes exactly where there is no other.
use Rattle.std.proofs.lemmas.Bool.{eqb-true, eq-eqb}
use Rattle.std.proofs.Common.{length}
use Rattle.span_seq.proofs.SpanLemmas.{single_test}
use Rattle.span_seq.proofs.sequence.Sequence.is_single.Goals as goal

pub returns : goal.returns
returns g c =
    let s = c.args.self.now in
    let first = c.first.result.now in
    let both = single_test (g.C.Spans.spans s.spans.now) s.from s.len s.start.index s.start.skip first s.begins s.within c.first.ensures.first in
    (λ e. both.0 (eqb-true (length first) s.len e), λ few. eq-eqb (length first) s.len (both.1 few))
