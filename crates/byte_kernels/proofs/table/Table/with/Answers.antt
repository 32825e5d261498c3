-- One bit is set, and no other changes.
use Rattle.std.proofs.Common.{rules}
use Rattle.byte_kernels.proofs.BitLemmas.{has-with_bit}
use Rattle.byte_kernels.proofs.table.Table.with.Goals as goal

pub returns : goal.returns
returns c = λ other. has-with_bit c.args.self.rows c.args.byte c.row.result other c.row.ensures.row (search rules)
