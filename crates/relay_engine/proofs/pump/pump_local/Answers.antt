use Rattle.std.proofs.Common.{arith}
use Rattle.relay_engine.proofs.InTimeLemmas.{stops_unread}
use Rattle.relay_engine.proofs.pump.pump_local.Goals as goal

pub returns-in_err-blocks-clause-in_time : goal.returns-in_err-blocks-clause-in_time
returns-in_err-blocks-clause-in_time g c = stops_unread c.args.job.now (g.S.Source.state c.args.source.now) (omega (arith, c.requires.seg_least))
