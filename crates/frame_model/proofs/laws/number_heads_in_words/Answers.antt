-- By whether there are as many bytes.
use Rattle.frame_model.proofs.HeadLemmas.{never_broken, number_in_words}
use Rattle.frame_model.proofs.laws.number_heads_in_words.Goals as goal

pub returns-clause-told : goal.returns-clause-told
returns-clause-told c = number_in_words

pub returns-clause-never_broken : goal.returns-clause-never_broken
returns-clause-never_broken c = never_broken
