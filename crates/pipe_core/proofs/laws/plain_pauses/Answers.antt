-- As long as there are unexamined bytes enough to begin a pause, one stands.
use Rattle.pipe_core.proofs.PlainLemmas.{paused_same}
use Rattle.pipe_core.proofs.laws.plain_pauses.Goals as goal

pub returns : goal.returns
returns c = paused_same
