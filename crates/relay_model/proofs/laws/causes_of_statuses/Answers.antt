use Rattle.relay_model.proofs.StatusLemmas.{causes}
use Rattle.relay_model.proofs.laws.causes_of_statuses.Goals as goal

pub returns : goal.returns
returns c = causes
