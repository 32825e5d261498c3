-- By the first line feed.
use Rattle.std.proofs.Common.{sym}
use Rattle.frame_fronts.proofs.LineLemmas.{line_within, no_line_near}
use Rattle.frame_fronts.proofs.place.line.Goals as goal

pub returns-in-None-clause-none : goal.returns-in-None-clause-none
returns-in-None-clause-none c = no_line_near c.args.max c.args.bytes.now c.longest-most.result c.longest-most.ensures (sym c.in-None.ensures)

pub returns-in-Some-clause-whole : goal.returns-in-Some-clause-whole
returns-in-Some-clause-whole c = line_within c.args.max c.args.bytes.now c.longest-most.result c.in-Some.len c.longest-most.ensures (sym c.in-Some.ensures)
