use Rattle.pipe_turns.proofs.HeardLemmas.{made, refused, won}
use Rattle.pipe_shared.proofs.laws.others_are_heard_first.Goals as goal

pub returns-clause-made : goal.returns-clause-made
returns-clause-made c = made

pub returns-clause-won : goal.returns-clause-won
returns-clause-won c = won

pub returns-clause-refused : goal.returns-clause-refused
returns-clause-refused c = refused
