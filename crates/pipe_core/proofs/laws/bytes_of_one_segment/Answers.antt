use Rattle.pipe_core.proofs.RunLemmas.{run_in_holds}
use Rattle.pipe_core.proofs.laws.bytes_of_one_segment.Goals as goal

pub returns : goal.returns
returns c = run_in_holds
