-- By the lowest mark.
use Rattle.std.proofs.Common.{arith, ◌+◌}
use Rattle.std.proofs.lemmas.Bool.{leb-false, leb-true}
use Rattle.frame_fronts.proofs.CleanLemmas.{marked_clear, marked_feed, unmarked_clear}
use Rattle.frame_fronts.proofs.clean.is_clear_lane.Goals as goal

pub returns-then-marks-eq0-clause-clear : goal.returns-then-marks-eq0-clause-clear
returns-then-marks-eq0-clause-clear c = λ yes k low high. unmarked_clear c.args.bytes.now c.args.from 16 c.marks_near-marks.result c.marks_near-marks.ensures c.if-marks-eq0.true k low (omega (arith, high))

pub returns-clause-clear : goal.returns-clause-clear
returns-clause-clear c = λ yes k low high. marked_clear c.args.bytes.now c.args.from 16 c.marks_near-marks.result c.lowest.result c.marks_near-marks.ensures c.lowest.ensures.below k low (omega (arith, high)) (omega (arith, high, leb-true c.args.len c.lowest.result yes))

pub returns-clause-feed : goal.returns-clause-feed
returns-clause-feed c = λ other. marked_feed c.args.bytes.now c.args.from 16 c.marks_near-marks.result c.lowest.result (c.args.from + c.args.len) c.marks_near-marks.ensures c.lowest.ensures.set (omega (arith, leb-false c.args.len c.lowest.result other))
