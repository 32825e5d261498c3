-- Two loads are compared.
use Rattle.std.proofs.Common.{arith}
use Rattle.byte_kernels.proofs.LaneLemmas.{marks_of_difference}
use Rattle.byte_kernels.proofs.front.DifferPlaces.group.Goals as goal

pub returns : goal.returns
returns c =
    let room = c.requires in
    marks_of_difference 16 c.args.from c.args.self.now.a.now c.args.self.now.b.now (omega arith) (omega arith) (omega arith)
