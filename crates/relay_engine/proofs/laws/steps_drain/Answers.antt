use Rattle.relay_engine.proofs.PipeDrainerLemmas.{wrote_all, wrote_none, wrote_on}
use Rattle.relay_engine.proofs.laws.steps_drain.Goals as goal

pub returns : goal.returns
returns c = record { first = wrote_none; next = wrote_on; last = wrote_all }
