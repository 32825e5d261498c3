use Rattle.relay_engine.proofs.LendLemmas.{front_so_far}
use Rattle.relay_engine.proofs.laws.drained_is_a_front.Goals as goal

pub returns : goal.returns
returns c = front_so_far
