use Rattle.seg_pool.proofs.MomentLemmas.{home_is_not_out, new_is_not_out}
use Rattle.seg_pool.proofs.laws.rented_is_not_out.Goals as goal

pub returns-clause-home : goal.returns-clause-home
returns-clause-home c = home_is_not_out

pub returns-clause-new : goal.returns-clause-new
returns-clause-new c = new_is_not_out
