use Rattle.seg_block.proofs.Prefixes.{front_of_prefix}
use Rattle.seg_block.proofs.tail.SegTail.covers.Goals as goal

pub returns-clause-seen : goal.returns-clause-seen
returns-clause-seen c = front_of_prefix _ _ _ c.agree.ensures.2
