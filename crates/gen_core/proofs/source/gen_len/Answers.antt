-- A frame more.
use Rattle.std.proofs.Common.{arith}
use Rattle.gen_core.proofs.GenLemmas.{text_more}
use Rattle.gen_core.proofs.source.gen_len.Goals as goal

pub loop-number-preserved : goal.loop-number-preserved
loop-number-preserved c =
    let so_far = c.loop-number.invariant in
    let len = rw c.len_of.ensures.len at c.frame_len-total.ensures.len in (
      omega (arith, so_far.0, len, text_more c.args.framing c.args.seed c.loop-number.number),
      omega (arith, so_far.1, c.frame_len-total.ensures.few),
    )
