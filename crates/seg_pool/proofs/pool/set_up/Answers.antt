use Rattle.crossbeam_queue.specs.Passes.{view}
use Rattle.seg_pool.proofs.MomentLemmas.{sets_up}
use Rattle.seg_pool.proofs.pool.set_up.Goals as goal

pub another-requires-clause-rule : goal.another-requires-clause-rule
another-requires-clause-rule g c = sets_up g.G.Setting.keep g.G.Setting.segment c.args.first.now.id (view c.args.first.now) c.requires.pass.1
