-- A lawful input is relayed to its end.
use Rattle.relay_model.proofs.CompleteLemmas.{complete}
use Rattle.relay_model.proofs.laws.complete_where_lawful.Goals as goal

pub returns : goal.returns
returns c = complete c.bad_stays_bad.ensures
