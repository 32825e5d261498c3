-- All blocks that came in come back.
use Rattle.std.proofs.Common.{List, ap, arith}
use Rattle.seg_block.specs.Numbered.{weigh}
use Rattle.pipe_state.specs.Released.{BlockName}
use Rattle.relay_engine.proofs.InTimeLemmas.{stops_unread}
use Rattle.relay_engine.proofs.PumpFillLemmas.{came_back}
use Rattle.relay_engine.proofs.pump.pump_over.Goals as goal

pub returns-in-Ok-clause-blocks : goal.returns-in-Ok-clause-blocks
returns-in-Ok-clause-blocks g c = came_back _ _ c.pump-report.new.pipe c.in-Ok.pipe c.close.ensures.all c.pump-report.ensures.made c.in-Ok.ensures.blocks

pub returns-in-OutOfMemory-clause-blocks : goal.returns-in-OutOfMemory-clause-blocks
returns-in-OutOfMemory-clause-blocks g c = λ weight. ap (λ (names : List BlockName). weigh weight names) c.in-Err.ensures.back

pub returns-in-OutOfMemory-clause-in_time : goal.returns-in-OutOfMemory-clause-in_time
returns-in-OutOfMemory-clause-in_time g c = stops_unread c.args.job.now (g.S.Source.state c.args.source.now) (omega (arith, c.requires.range.seg_least))
