use Rattle.pipe_turns.proofs.LendLemmas.{runs_are_the_lend}
use Rattle.pipe_turns.proofs.laws.runs_are_the_lend.Goals as goal

pub returns : goal.returns
returns c h = runs_are_the_lend h
