-- Above the logarithm, no bit is set.
use Rattle.std.proofs.Common.{suc, arith}
use Rattle.std.proofs.Math.Nat.{two-pow-succ}
use Rattle.std.proofs.lemmas.Nat.Bits.{bit_at_above}
use Rattle.byte_kernels.proofs.marks.highest.Goals as goal

pub returns-clause-above : goal.returns-clause-above
returns-clause-above c k lt =
    let log = c.ilog2.result in
    bit_at_above c.args.marks (suc log) k (omega (arith, two-pow-succ log, c.ilog2.ensures.next_power_gt)) lt
