use Rattle.gen_core.proofs.GenLemmas.{all_small, count_is}
use Rattle.gen_core.proofs.laws.generated_is_small.Goals as goal

pub returns-clause-counted : goal.returns-clause-counted
returns-clause-counted c = count_is

pub returns-clause-small : goal.returns-clause-small
returns-clause-small c = all_small
