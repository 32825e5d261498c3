-- A piece of the table.
use Rattle.std.proofs.Common.{arith, ◌+◌, ◌-◌}
use Rattle.gen_core.proofs.GenLemmas.{piece}
use Rattle.gen_core.proofs.payload.printable.Goals as goal

pub returns : goal.returns
returns c = piece c.args.start c.args.len (c.args.start + c.args.len - c.args.start) c.requires.start c.requires.len (omega arith)
