-- The lowest bit of the first group with a mark is the first place.
use Rattle.std.proofs.Common.{arith}
use Rattle.byte_kernels.proofs.MarksLemmas.{set_within, passed_group, found_first}
use Rattle.byte_kernels.proofs.scan.first.Goals as goal

pub overflow_add-result : goal.overflow_add-result
overflow_add-result g c = omega (arith, set_within c.group_of_64-marks.ensures c.lowest.result c.lowest.ensures.set)

pub returns-then-marks-ne0 : goal.returns-then-marks-ne0
returns-then-marks-ne0 g c = found_first c.group_of_64-marks.ensures (omega arith) (omega arith) c.loop-from.invariant.1 c.lowest.result c.lowest.ensures.set c.lowest.ensures.below

pub loop-from-preserved : goal.loop-from-preserved
loop-from-preserved g c = (omega arith, passed_group c.group_of_64-marks.ensures c.if-marks-ne0.false c.loop-from.invariant.1)
