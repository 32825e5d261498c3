use Rattle.std.proofs.Common.{◌<◌, arith}
use Rattle.crossbeam_queue.specs.Passes.{view}
use Rattle.seg_pool.proofs.StepLemmas.{makes}
use Rattle.seg_pool.proofs.pool.Pool.make_block.Goals as goal

pub another-spent-requires-clause-rule : goal.another-spent-requires-clause-rule
another-spent-requires-clause-rule g c =
    let right : c.pass.inside.next < c.pass.inside.limit = omega (arith, c.if-pass.false) in
    makes c.pass.inside.pass.id (view c.pass.inside.pass) (omega (arith, c.pass.invariant.1.some_part, c.pass.invariant.1.parts_are)) (omega (arith, c.pass.invariant.1.next_is, c.pass.invariant.1.limit_is, right))
