use Rattle.std.proofs.Common.{◌≡◌, length}
use Rattle.seg_block.specs.Numbered.{AreNumbered}
use Rattle.seg_block.proofs.many.own_blocks.Given as goal

abbrev pub invariant-loop-id : goal.invariant-loop-id
invariant-loop-id l = (length l.blocks.items ≡ l.id) × AreNumbered 0 l.fn.segment l.blocks.items
