-- By induction over the reads.
use Rattle.stream_ends.proofs.CountLemmas.{few}
use Rattle.stream_ends.proofs.laws.reads_are_few.Goals as goal

pub returns : goal.returns
returns c = few
