-- The reader reads these bytes, and has passed no more than there are. Each line takes some of the rest away.
use Rattle.std.proofs.Common.{◌≡◌, ◌≤◌, length}
use Rattle.seq_reader.specs.Reading.{list_of, rest_of}
use Rattle.example_lines.proofs.lines.whole_lines.Given as goal

abbrev pub invariant-loop-line : goal.invariant-loop-line
invariant-loop-line l = (list_of l.rest ≡ l.bytes) × (l.rest.place ≤ length l.bytes)

abbrev pub decreases-loop-line : goal.decreases-loop-line
decreases-loop-line l = length (rest_of l.rest)
