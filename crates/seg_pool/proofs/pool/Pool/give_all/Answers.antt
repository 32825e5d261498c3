use Rattle.seg_pool.proofs.RentLemmas.{gives_on}
use Rattle.seg_pool.proofs.pool.Pool.give_all.Goals as goal

pub loop-block-preserved : goal.loop-block-preserved
loop-block-preserved g c =
    gives_on c.args.self.now c.args.pass.now.books c.args.blocks.items c.loop-block.block-iterator.rest.items c.next.new.self.rest.items c.in-Some.block c.loop-block.pass c.give.new.pass
    c.loop-block.invariant c.in-Some.ensures.steps.0 c.give.ensures.pool c.give.ensures.given
