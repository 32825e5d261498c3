use Rattle.relay_model.proofs.RunLemmas.{all_translated}
use Rattle.relay_model.proofs.laws.translates_all.Goals as goal

pub returns : goal.returns
returns c = all_translated c.bad_stays_bad.ensures
