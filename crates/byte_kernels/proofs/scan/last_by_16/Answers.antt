-- The highest bit of the last group with a mark is the last place.
use Rattle.std.proofs.Common.{arith}
use Rattle.byte_kernels.proofs.MarksLemmas.{set_within, passed_group_back, found_last}
use Rattle.byte_kernels.proofs.scan.last_by_16.Goals as goal

pub overflow_add-result : goal.overflow_add-result
overflow_add-result g c = omega (arith, set_within c.group-marks.ensures c.highest.result c.highest.ensures.set)

pub returns-then-marks-ne0 : goal.returns-then-marks-ne0
returns-then-marks-ne0 g c = found_last c.group-marks.ensures (omega arith) (omega arith) c.loop-to.invariant.1 c.highest.result c.highest.ensures.set c.highest.ensures.above

pub loop-to-preserved : goal.loop-to-preserved
loop-to-preserved g c = (omega arith, passed_group_back c.group-marks.ensures c.if-marks-ne0.false (omega arith) c.loop-to.invariant.1)
