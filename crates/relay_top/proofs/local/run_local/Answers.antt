use Rattle.std.proofs.Common.{rules}
use Rattle.relay_top.proofs.CommandLemmas.{copies}
use Rattle.relay_top.proofs.local.run_local.Goals as goal

pub returns : goal.returns
returns g c = λ words doors. copies words c.copy.result _ _ c.args.command (search (rules, c.copy.ensures doors))
