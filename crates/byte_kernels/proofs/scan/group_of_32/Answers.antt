-- Two groups are joined.
use Rattle.std.proofs.Common.{refl, arith}
use Rattle.byte_kernels.proofs.MarksLemmas.{joined}
use Rattle.byte_kernels.proofs.scan.group_of_32.Goals as goal

pub returns : goal.returns
returns g c =
    let front = c.group-front.ensures.small in
    let back = c.group.ensures.small in
    joined 16 32 refl refl (omega arith) (omega arith) c.group-front.ensures c.group.ensures
