use Rattle.seg_pool.proofs.MomentLemmas.{in_one_place}
use Rattle.seg_pool.proofs.laws.each_id_is_in_one_place.Goals as goal

pub returns : goal.returns
returns c = in_one_place
