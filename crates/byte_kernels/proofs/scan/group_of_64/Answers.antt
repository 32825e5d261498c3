-- Two groups are joined.
use Rattle.std.proofs.Common.{refl, arith}
use Rattle.byte_kernels.proofs.MarksLemmas.{joined}
use Rattle.byte_kernels.proofs.scan.group_of_64.Goals as goal

pub returns : goal.returns
returns g c =
    let front = c.group_of_32-front.ensures.small in
    let back = c.group_of_32.ensures.small in
    joined 32 64 refl refl (omega arith) (omega arith) c.group_of_32-front.ensures c.group_of_32.ensures
