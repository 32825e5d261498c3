use Rattle.seg_pool.proofs.MomentLemmas.{knows_all}
use Rattle.seg_pool.proofs.laws.all_is_known.Goals as goal

pub returns : goal.returns
returns c = knows_all
