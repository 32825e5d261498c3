-- Frame by frame.
use Rattle.frame_fronts.proofs.TranslationLemmas.{front_goes_on, front_itself}
use Rattle.frame_fronts.proofs.laws.front_is_translated.Goals as goal

pub returns-clause-goes_on : goal.returns-clause-goes_on
returns-clause-goes_on c = front_goes_on

pub returns-clause-itself : goal.returns-clause-itself
returns-clause-itself c = front_itself
