use Rattle.gen_core.proofs.EndLemmas.{no_rest}
use Rattle.gen_core.proofs.laws.generated_has_no_rest.Goals as goal

pub returns : goal.returns
returns c = no_rest
