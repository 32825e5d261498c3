use Rattle.relay_model.proofs.StatusLemmas.{whole}
use Rattle.relay_model.proofs.laws.whole_on_status_0.Goals as goal

pub returns : goal.returns
returns c = whole
