use Rattle.relay_engine.proofs.MeetLemmas.{settled}
use Rattle.relay_engine.proofs.laws.settled_pump_is_reported.Goals as goal

pub returns : goal.returns
returns c = settled
