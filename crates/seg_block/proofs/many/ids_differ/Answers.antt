use Rattle.seg_block.proofs.NumberedLemmas.{differ}
use Rattle.seg_block.proofs.many.ids_differ.Goals as goal

pub returns : goal.returns
returns c = differ
