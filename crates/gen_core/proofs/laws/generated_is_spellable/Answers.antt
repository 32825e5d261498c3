use Rattle.gen_core.proofs.GenLemmas.{all_short, all_spellable}
use Rattle.gen_core.proofs.laws.generated_is_spellable.Goals as goal

pub returns-clause-spellable : goal.returns-clause-spellable
returns-clause-spellable c = all_spellable

pub returns-clause-short : goal.returns-clause-short
returns-clause-short c = all_short
