use Rattle.relay_engine.proofs.FillSideLemmas.{begins, filled_all, fills_on}
use Rattle.relay_engine.proofs.laws.steps_fill.Goals as goal

pub returns : goal.returns
returns c = record { first = begins; next = fills_on; last = filled_all }
