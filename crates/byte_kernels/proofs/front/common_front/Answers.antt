-- Before the first place at which they differ, they are alike.
use Rattle.std.proofs.Common.{arith}
use Rattle.byte_kernels.proofs.PlaceLemmas.{front_is}
use Rattle.byte_kernels.proofs.front.common_front.Goals as goal

pub returns-in-Some : goal.returns-in-Some
returns-in-Some c =
    let first = c.in-Some.ensures in
    let within = first.0.high in
    let shorter = c.min-count.ensures in
    front_is c.args.a.now c.args.b.now c.in-Some.place (omega arith) (omega arith) (λ k lt. first.0.before k (omega arith) lt) (λ _ _. first.1)

pub returns-in-None : goal.returns-in-None
returns-in-None c =
    let shorter = c.min-count.ensures in
    front_is c.args.a.now c.args.b.now c.min-count.result (omega arith) (omega arith) (λ k lt. c.in-None.ensures k (omega arith) lt) (λ in_a in_b. absurd (omega arith))
