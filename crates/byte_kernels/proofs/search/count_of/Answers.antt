-- Lane by lane.
use Rattle.std.proofs.Common.{arith, drop, take}
use Rattle.std.specs.Prelude.{◌==◌}
use Rattle.std.proofs.lemmas.List.{length-drop, length-take}
use Rattle.std.proofs.lemmas.List.Sums.{count_by-le-length}
use Rattle.byte_kernels.proofs.LaneLemmas.{counted_more}
use Rattle.byte_kernels.proofs.search.count_of.Goals as goal

pub overflow_add-count : goal.overflow_add-count
overflow_add-count c =
    let lane = take 16 (drop c.loop-from.from c.args.hay.now) in
    let before = take c.loop-from.from c.args.hay.now in
    omega (arith, c.loop-from.invariant.1, c.count_lane-count.ensures, count_by-le-length (λ other. other == c.args.byte) lane, count_by-le-length (λ other. other == c.args.byte) before, length-take 16 (drop c.loop-from.from c.args.hay.now), length-take c.loop-from.from c.args.hay.now, length-drop c.loop-from.from c.args.hay.now)

pub loop-from-preserved : goal.loop-from-preserved
loop-from-preserved c = (omega arith, counted_more (λ other. other == c.args.byte) c.loop-from.from 16 c.loop-from.count c.count_lane-count.result c.args.hay.now c.loop-from.invariant.1 c.count_lane-count.ensures)
