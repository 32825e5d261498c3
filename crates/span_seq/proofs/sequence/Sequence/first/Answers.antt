-- The first span is the one where the sequence begins.
use Rattle.std.proofs.Common.{◌<◌, take, drop, ap, arith, sym, ◌∙◌, get_or, []}
use Rattle.span_seq.specs.Spans.{bytes_of}
use Rattle.span_seq.proofs.SpanLemmas.{nothing_of_part, first_at, head_of_part, front_of_part, cut_first, front_taken, part_at}
use Rattle.span_seq.proofs.sequence.Sequence.first.Goals as goal

pub returns-then-self-eq0-clause-first : goal.returns-then-self-eq0-clause-first
returns-then-self-eq0-clause-first g c = let s = c.args.self.now in sym (ap (λ l. get_or l 0 []) (nothing_of_part (g.C.Spans.spans s.spans.now) s.from s.len c.if-self-eq0.true))

pub returns-clause-first : goal.returns-clause-first
returns-clause-first g c =
    let s = c.args.self.now in
    let spans = g.C.Spans.spans s.spans.now in
    let some : 0 < s.len = omega arith in
    let same = cut_first c.span.result.now s.start.skip s.len c.min-len.result c.min-len.ensures ∙ ap (λ l. take s.len (drop s.start.skip l)) c.span.ensures in
    same ∙ sym (head_of_part spans s.from s.len s.start.index s.start.skip (s.begins some) some)

pub returns-clause-front : goal.returns-clause-front
returns-clause-front g c =
    let s = c.args.self.now in
    let spans = g.C.Spans.spans s.spans.now in
    let some : 0 < s.len = omega arith in
    let same = cut_first c.span.result.now s.start.skip s.len c.min-len.result c.min-len.ensures ∙ ap (λ l. take s.len (drop s.start.skip l)) c.span.ensures in
    front_taken _ (first_at spans s.start.index s.start.skip s.len) (bytes_of (part_at spans s.from s.len)) _ same (front_of_part spans s.from s.len s.start.index s.start.skip (s.begins some) some)
