-- No place was passed that meets the test.
use Rattle.std.proofs.Common.{◌-◌, ◌≤◌}
use Rattle.std.specs.Prelude.{IsTrue}
use Rattle.memchr.specs.Find.{Nowhere}
use Rattle.byte_kernels.proofs.scan.first_by_16.Given as goal

abbrev pub invariant-loop-from : goal.invariant-loop-from
invariant-loop-from g l = (l.start ≤ l.from) × (l.from ≤ l.count) × Nowhere (λ place. IsTrue (g.P.Places.meets l.places place)) l.start l.from

abbrev pub decreases-loop-from : goal.decreases-loop-from
decreases-loop-from g l = l.count - l.from
