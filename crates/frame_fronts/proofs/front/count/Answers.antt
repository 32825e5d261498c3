-- One frame more.
use Rattle.std.proofs.Common.{arith, drop}
use Rattle.std.proofs.lemmas.List.{length-drop}
use Rattle.frame_fronts.proofs.FrontLemmas.{one_more, some}
use Rattle.frame_fronts.proofs.front.count.Goals as goal

pub loop-place-preserved : goal.loop-place-preserved
loop-place-preserved c =
    let so_far = c.loop-place.invariant in
    let place = c.in-Some.place in
    let whole = rw c.behind.ensures at c.in-Some.ensures.whole in
    let least = some c.args.framing c.args.max (drop c.loop-place.len c.args.bytes.now) place.from place.len place.end whole in
    record {
      payloads = _;
      front = one_more c.args.framing c.args.framing c.args.max c.args.bytes.now c.loop-place.len c.loop-place.frames place.from place.len place.end so_far.payloads (λ k. omega (arith, c.type_inv.bytes k)) so_far.front whole (λ possible. possible);
      few = omega (arith, so_far.few, least);
      within = omega (arith, so_far.within, whole.within.1, length-drop c.loop-place.len c.args.bytes.now);
    }

pub loop-place-smaller : goal.loop-place-smaller
loop-place-smaller c =
    let so_far = c.loop-place.invariant in
    let place = c.in-Some.place in
    let whole = rw c.behind.ensures at c.in-Some.ensures.whole in
    omega (arith, some c.args.framing c.args.max (drop c.loop-place.len c.args.bytes.now) place.from place.len place.end whole, so_far.within, whole.within.1, length-drop c.loop-place.len c.args.bytes.now)

pub returns-clause-all : goal.returns-clause-all
returns-clause-all c = rw c.behind.ensures at c.in_default.ensures.none
