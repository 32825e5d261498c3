use Rattle.std.proofs.Common.{◌≡◌, List, ℕ, arith, ap, subst}
use mathlib.Core.List.{IsPrefix}
use Rattle.seg_block.proofs.Prefixes.{take-prefix, prefix_take}
use Rattle.seg_block.proofs.front.SegFront.learn.Goals as goal

pub returns-clause-seen : goal.returns-clause-seen
returns-clause-seen c =
    let same = c.replace_with.ensures in
    take-prefix _ _ _ _ same.3 (omega (arith, same.1, c.max-self.ensures))

pub returns-clause-mark : goal.returns-clause-mark
returns-clause-mark c =
    let log : c.again.result.log ≡ c.args.mark.now.known.log = ap (λ k. k.log) c.again.ensures in
    prefix_take _ _ _ (subst (λ (l : List ℕ). IsPrefix l c.replace_with.new.dest.gate.log) log c.replace_with.ensures.4)
    (omega (arith, c.args.mark.now.counted, c.max-self.ensures))
