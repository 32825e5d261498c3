use Rattle.std.proofs.Common.{subst, ℕ}
use Rattle.crossbeam_queue.specs.Passes.{view}
use Rattle.seg_pool.specs.Books.{IsOut}
use Rattle.seg_pool.proofs.StepLemmas.{frees}
use Rattle.seg_pool.proofs.pool.free.Goals as goal

pub another-spent-requires-clause-rule : goal.another-spent-requires-clause-rule
another-spent-requires-clause-rule g c = frees g.G.Freed.id c.args.pass.now.id (view c.args.pass.now) c.requires.part (subst (λ (id : ℕ). IsOut (view c.args.pass.now) id) c.requires.id c.requires.out)
