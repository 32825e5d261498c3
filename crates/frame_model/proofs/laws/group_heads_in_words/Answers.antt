-- Group by group.
use Rattle.frame_model.proofs.HeadLemmas.{bad_in_words, group_in_words}
use Rattle.frame_model.proofs.laws.group_heads_in_words.Goals as goal

pub returns-clause-told : goal.returns-clause-told
returns-clause-told c = group_in_words

pub returns-clause-broken : goal.returns-clause-broken
returns-clause-broken c = bad_in_words
