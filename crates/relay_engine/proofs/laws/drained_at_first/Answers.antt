use Rattle.relay_engine.proofs.PumpLemmas.{new_drained}
use Rattle.relay_engine.proofs.laws.drained_at_first.Goals as goal

pub returns : goal.returns
returns c = new_drained
