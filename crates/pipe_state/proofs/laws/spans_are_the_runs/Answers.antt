use Rattle.pipe_state.proofs.laws.spans_are_the_runs.Goals as goal
use Rattle.pipe_state.proofs.LyingLemmas.{spans_are_runs}

pub returns : goal.returns
returns c = spans_are_runs
