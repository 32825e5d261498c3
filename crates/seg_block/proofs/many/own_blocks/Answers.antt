use Rattle.std.proofs.Common.{[], ◌∷◌, length-append, arith}
use Rattle.seg_block.proofs.NumberedLemmas.{AreNumbered-push}
use Rattle.seg_block.proofs.many.own_blocks.Goals as goal

pub loop-id-preserved : goal.loop-id-preserved
loop-id-preserved c =
    let blocks = c.loop-id.blocks.items in
    let block = c.in_ok-make.field-0 in
    let long = length-append blocks (block ∷ []) in
    rw c.in_ok-push.ensures.items
    (omega (arith, long, c.loop-id.invariant.0), AreNumbered-push 0 _ blocks block c.loop-id.invariant.1 (omega (arith, c.in_ok-make.ensures, c.loop-id.invariant.0)) c.in_ok-make.ensures.1)
