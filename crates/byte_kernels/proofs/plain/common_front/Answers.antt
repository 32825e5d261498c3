-- Before the first place at which they differ, they are alike.
use Rattle.std.proofs.Common.{not, ap, arith}
use Rattle.std.proofs.lemmas.Bool.{ne_eqb}
use Rattle.byte_kernels.proofs.PlaceLemmas.{front_is}
use Rattle.byte_kernels.proofs.plain.common_front.Goals as goal

pub returns-then-a-index : goal.returns-then-a-index
returns-then-a-index c =
    let shorter = c.min-count.ensures in
    front_is c.args.a.now c.args.b.now c.loop-index.index (omega arith) (omega arith) c.loop-index.invariant (λ _ _. ap not (ne_eqb _ _ c.if-a-index.true))

pub returns : goal.returns
returns c =
    let shorter = c.min-count.ensures in
    front_is c.args.a.now c.args.b.now c.min-count.result (omega arith) (omega arith) (λ k lt. c.loop-index.invariant k (omega arith)) (λ in_a in_b. absurd (omega arith))
