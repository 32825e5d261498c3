use Rattle.std.proofs.Common.{arith}
use Rattle.crossbeam_queue.specs.Passes.{view}
use Rattle.seg_pool.proofs.StepLemmas.{shares}
use Rattle.seg_pool.proofs.pool.Pool.split.Goals as goal

pub another-new-requires-clause-rule : goal.another-new-requires-clause-rule
another-new-requires-clause-rule c = shares c.pass.inside.pass.id (view c.pass.inside.pass) (grind (arith, c.share_of-parts.ensures, c.if-parts-eq0.false, c.pass.invariant.1.parts_are))
