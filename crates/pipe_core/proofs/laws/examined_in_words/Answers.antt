-- By cases on the latest call.
use Rattle.pipe_core.proofs.ExaminedLemmas.{farthest, only_farthest}
use Rattle.pipe_core.proofs.laws.examined_in_words.Goals as goal

pub returns-clause-is_farthest : goal.returns-clause-is_farthest
returns-clause-is_farthest c = farthest

pub returns-clause-only : goal.returns-clause-only
returns-clause-only c = only_farthest
