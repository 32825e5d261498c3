use Rattle.pipe_shared.proofs.LocalLemmas.{logged}
use Rattle.pipe_shared.proofs.laws.local_history_grows.Goals as goal

pub returns : goal.returns
returns c = logged
