-- A span more that was searched.
use Rattle.std.proofs.Common.{◌≡◌, ◌+◌, ◌++◌, length, drop, Some, ap, sym, ◌∙◌, arith, length-append, append_assoc}
use Rattle.std.specs.List.{position}
use Rattle.span_seq.specs.Sequence.{bytes}
use Rattle.span_seq.proofs.ScanLemmas.{at_some, found_behind, none_behind}
use Rattle.span_seq.proofs.SpanLemmas.{length-part, length_parts, split_at_front}
use Rattle.span_seq.proofs.sequence.Sequence.index_of.Goals as goal

pub overflow_add-result : goal.overflow_add-result
overflow_add-result g c =
    let s = c.args.self.now in
    let i = c.loop-rest.invariant in
    let first = c.first-first.result.now in
    let behind = drop (length first) (bytes c.loop-rest.rest) in
    let whole = split_at_front i.before first (bytes c.loop-rest.rest) (bytes s) i.parts c.first-first.ensures.front in
    omega (
      arith,
      length_parts i.before first behind (bytes s) whole,
      length-part (g.C.Spans.spans s.spans.now) s.from s.len s.within,
      s.within,
      s.counted,
      i.counted,
      at_some (g.S.Search.meets c.args.search.now) first c.in-Some.index (sym c.in-Some.ensures),
    )

pub returns-in-Some : goal.returns-in-Some
returns-in-Some g c =
    let s = c.args.self.now in
    let i = c.loop-rest.invariant in
    let first = c.first-first.result.now in
    let test = g.S.Search.meets c.args.search.now in
    let behind = drop (length first) (bytes c.loop-rest.rest) in
    let whole = split_at_front i.before first (bytes c.loop-rest.rest) (bytes s) i.parts c.first-first.ensures.front in
    sym (
    ap (position test) whole
    ∙ found_behind test i.before first behind c.in-Some.index i.unmet (sym c.in-Some.ensures)
    ∙ ap (λ n. Some (n + c.in-Some.index)) (sym i.counted)
    )

pub overflow_add-passed : goal.overflow_add-passed
overflow_add-passed g c =
    let s = c.args.self.now in
    let i = c.loop-rest.invariant in
    let first = c.first-first.result.now in
    let behind = drop (length first) (bytes c.loop-rest.rest) in
    let whole = split_at_front i.before first (bytes c.loop-rest.rest) (bytes s) i.parts c.first-first.ensures.front in
    omega (arith, length_parts i.before first behind (bytes s) whole, length-part (g.C.Spans.spans s.spans.now) s.from s.len s.within, s.within, s.counted, i.counted)

pub loop-rest-preserved : goal.loop-rest-preserved
loop-rest-preserved g c =
    let s = c.args.self.now in
    let i = c.loop-rest.invariant in
    let first = c.first-first.result.now in
    let test = g.S.Search.meets c.args.search.now in
    let behind = drop (length first) (bytes c.loop-rest.rest) in
    let whole = split_at_front i.before first (bytes c.loop-rest.rest) (bytes s) i.parts c.first-first.ensures.front in
    record {
      before = i.before ++ first;
      parts = whole ∙ sym (append_assoc i.before first behind) ∙ ap (λ l. (i.before ++ first) ++ l) (sym c.without_front-rest.ensures.bytes);
      counted = omega (arith, i.counted, length-append i.before first);
      unmet = none_behind test i.before first i.unmet (sym c.index_in.ensures ∙ c.in_default.is);
    }
