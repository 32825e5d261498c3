-- One frame more.
use Rattle.std.proofs.Common.{arith, drop, ap, List, ℕ, ◌∙◌}
use Rattle.std.proofs.lemmas.List.{drop-drop, length-drop}
use Rattle.frame_fronts.proofs.FrontLemmas.{one_more_spelt, some}
use Rattle.frame_fronts.proofs.spell.spell.Goals as goal

pub loop-place-preserved : goal.loop-place-preserved
loop-place-preserved c =
    let so_far = c.loop-place.invariant in
    let place = c.in-Some.place in
    let rest = drop c.loop-place.len c.args.bytes.now in
    let next = rw so_far.rest_is at c.in-Some.ensures.next in
    let whole = next.whole in
    let least = some c.args.input c.args.max rest place.from place.len place.end whole in
    let end = rw so_far.rest_is at c.put-end.ensures.end in
    let put = rw so_far.rest_is at c.put-end.ensures.put in
    record {
      spelt = one_more_spelt c.args.input c.args.output c.args.max c.args.bytes.now c.loop-place.len c.loop-place.frames place.from place.len place.end c.args.room.now c.args.at c.loop-place.room c.put-end.new.room c.loop-place.end c.put-end.result (λ k. omega (arith, c.type_inv.bytes k)) so_far.spelt whole next.possible end put;
      rest_is = c.behind-rest.ensures ∙ ap (λ (t : List ℕ). drop place.end t) so_far.rest_is ∙ drop-drop place.end c.loop-place.len c.args.bytes.now;
      few = omega (arith, so_far.few, least);
      within = omega (arith, so_far.within, whole.within.1, length-drop c.loop-place.len c.args.bytes.now);
      end_within = omega (arith, c.put-end.ensures.within, so_far.kept);
      most = omega (arith, c.put-end.ensures.kept, so_far.kept);
      kept = c.put-end.ensures.kept ∙ so_far.kept;
    }

pub loop-place-smaller : goal.loop-place-smaller
loop-place-smaller c =
    let so_far = c.loop-place.invariant in
    let place = c.in-Some.place in
    let rest = drop c.loop-place.len c.args.bytes.now in
    let next = rw so_far.rest_is at c.in-Some.ensures.next in
    let whole = next.whole in
    omega (arith, some c.args.input c.args.max rest place.from place.len place.end whole, so_far.within, whole.within.1, length-drop c.loop-place.len c.args.bytes.now)

pub returns-clause-left : goal.returns-clause-left
returns-clause-left c = rw (c.loop-place.invariant.rest_is, c.loop-place.invariant.most, c.loop-place.invariant.kept) at c.in_default.ensures.left
