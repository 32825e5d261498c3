use Rattle.seg_pool.proofs.RentLemmas.{met_again}
use Rattle.seg_pool.proofs.laws.split_and_merged.Goals as goal

pub returns : goal.returns
returns c = met_again
