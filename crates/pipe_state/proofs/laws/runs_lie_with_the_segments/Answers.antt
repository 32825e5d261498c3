use Rattle.pipe_state.proofs.laws.runs_lie_with_the_segments.Goals as goal
use Rattle.pipe_state.proofs.LyingLemmas.{commits, advances, goes_home}

pub returns-clause-commit : goal.returns-clause-commit
returns-clause-commit c = commits

pub returns-clause-advance : goal.returns-clause-advance
returns-clause-advance c = advances

pub returns-clause-home : goal.returns-clause-home
returns-clause-home c = goes_home
