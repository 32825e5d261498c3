-- By the last line feed.
use Rattle.std.proofs.Common.{arith}
use Rattle.frame_fronts.proofs.LineLemmas.{lines_front, no_line}
use Rattle.frame_fronts.proofs.lines.lines_within.Goals as goal

pub returns-in-None-clause-none : goal.returns-in-None-clause-none
returns-in-None-clause-none c = no_line c.args.max c.args.bytes.now c.longest-most.result c.longest-most.ensures c.in-None.ensures

pub returns-in-Some-clause-counted : goal.returns-in-Some-clause-counted
returns-in-Some-clause-counted c =
    let last = c.in-Some.ensures in
    lines_front c.args.max c.args.bytes.now c.longest-most.result c.in-Some.last c.count_of.result (omega (arith, c.longest-most.ensures)) (omega (arith, c.longest-most.ensures)) last.0 last.1 c.count_of.ensures
