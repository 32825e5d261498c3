use Rattle.relay_engine.proofs.LendLemmas.{behind_others}
use Rattle.relay_engine.proofs.laws.drained_behind_others.Goals as goal

pub returns : goal.returns
returns c = behind_others
