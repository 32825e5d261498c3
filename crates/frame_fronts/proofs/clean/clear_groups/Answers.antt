-- Group by group.
use Rattle.std.proofs.Common.{arith, ◌+◌}
use Rattle.frame_fronts.proofs.CleanLemmas.{clear_more, unmarked_clear}
use Rattle.frame_fronts.proofs.clean.clear_groups.Goals as goal

pub loop-done-preserved : goal.loop-done-preserved
loop-done-preserved c =
    let from = c.args.from + c.loop-done.done in
    let group = unmarked_clear c.args.bytes.now from 64 c.marks_near_64.result c.marks_near_64.ensures (omega (arith, c.if-marks_near_64-ne0.false)) in
    record {
      within = omega arith;
      clear = λ k low high. clear_more c.args.bytes.now c.args.from from (from + 64) c.loop-done.invariant.clear group k low (omega (arith, high));
    }
