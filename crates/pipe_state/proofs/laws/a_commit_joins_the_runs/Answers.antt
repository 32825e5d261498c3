use Rattle.pipe_state.proofs.laws.a_commit_joins_the_runs.Goals as goal
use Rattle.pipe_state.proofs.RunLemmas.{sends_run}

pub returns : goal.returns
returns c = sends_run
