use Rattle.seg_pool.proofs.RentLemmas.{nothing_more}
use Rattle.seg_pool.proofs.laws.nothing_is_out.Goals as goal

pub returns : goal.returns
returns c = nothing_more
