use Rattle.std.proofs.Common.{◌≡◌, [], length, ap, sym, ◌∙◌, subst, arith}
use Rattle.std.specs.Prelude.{slice_index_or, Some}
use Rattle.pipe_state.specs.Fetched.{all_fetched}
use Rattle.pipe_state.specs.Chains.{front_at, spans_of}
use Rattle.pipe_state.proofs.chain.ChainSpans.span.Goals as goal
use Rattle.pipe_state.proofs.SpanLemmas.{first_span, next_span, rest_of_span, within_first}

pub slice_bounds-result-count : goal.slice_bounds-result-count
slice_bounds-result-count c =
    let at = subst (λ s. front_at s.links c.args.index ≡ Some c.front.result.now) (sym c.self.view_is) c.front.ensures in
    let first = subst (λ i. front_at c.self.inside.links.items i ≡ Some c.front.result.now) c.if-index-eq0.true at in
    let within = within_first c.self.inside.links.items c.front.result.now c.self.inside.skip first c.self.invariant.within in
    omega (arith, within, ap length c.seen-seen.ensures)

pub slice_bounds-result-start : goal.slice_bounds-result-start
slice_bounds-result-start c =
    let at = subst (λ s. front_at s.links c.args.index ≡ Some c.front.result.now) (sym c.self.view_is) c.front.ensures in
    let first = subst (λ i. front_at c.self.inside.links.items i ≡ Some c.front.result.now) c.if-index-eq0.true at in
    let within = within_first c.self.inside.links.items c.front.result.now c.self.inside.skip first c.self.invariant.within in
    omega (arith, within, ap length c.seen-seen.ensures)

pub returns-then-index-eq0 : goal.returns-then-index-eq0
returns-then-index-eq0 c =
    let at = subst (λ s. front_at s.links c.args.index ≡ Some c.front.result.now) (sym c.self.view_is) c.front.ensures in
    let first = subst (λ i. front_at c.self.inside.links.items i ≡ Some c.front.result.now) c.if-index-eq0.true at in
    rest_of_span _ _ c.self.inside.skip c.seen-seen.ensures
    ∙ sym (first_span c.self.inside.links.items c.front.result.now c.self.inside.skip first)
    ∙ ap (λ i. slice_index_or (spans_of c.self.inside.skip (all_fetched c.self.inside.links.items)) i []) (sym c.if-index-eq0.true)
    ∙ ap (λ s. slice_index_or (spans_of s.skip (all_fetched s.links)) c.args.index []) c.self.view_is

pub returns : goal.returns
returns c =
    let at = subst (λ s. front_at s.links c.args.index ≡ Some c.front.result.now) (sym c.self.view_is) c.front.ensures in
    c.seen-seen.ensures ∙ sym (next_span c.self.inside.links.items c.front.result.now c.self.inside.skip c.args.index c.if-index-eq0.false at)
    ∙ ap (λ s. slice_index_or (spans_of s.skip (all_fetched s.links)) c.args.index []) c.self.view_is
