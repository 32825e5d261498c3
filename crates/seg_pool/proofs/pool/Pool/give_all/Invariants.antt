use Rattle.seg_pool.proofs.RentLemmas.{IsGiving}
use Rattle.seg_pool.proofs.pool.Pool.give_all.Given as goal

abbrev pub invariant-loop-block : goal.invariant-loop-block
invariant-loop-block g l = IsGiving l.self l.fn.pass.books l.fn.blocks.items l.block-iterator.rest.items l.pass
