-- The first span, and those behind it.
use Rattle.std.proofs.Common.{◌<◌, ◌∷◌, ap, arith, sym, ◌∙◌}
use Rattle.span_seq.specs.Spans.{spans_of}
use Rattle.span_seq.proofs.SpanLemmas.{nothing_of_part, split_at_head}
use Rattle.span_seq.proofs.sequence.Sequence.split_first.Goals as goal

pub returns-clause-spans : goal.returns-clause-spans
returns-clause-spans g c =
    let s = c.args.self.now in
    let first = c.first-first.result.now in
    let some : 0 < s.len = omega arith in
    split_at_head (g.C.Spans.spans s.spans.now) s.from s.len s.start.index s.start.skip first (s.begins some) some c.first-first.ensures.first
    ∙ ap (λ p. first ∷ spans_of p) (sym c.without_front.ensures.part)

pub returns-then-self-eq0-clause-end : goal.returns-then-self-eq0-clause-end
returns-then-self-eq0-clause-end g c = let s = c.args.self.now in nothing_of_part (g.C.Spans.spans s.spans.now) s.from s.len c.if-self-eq0.true
