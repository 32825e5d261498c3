-- No place was passed that meets the test.
use Rattle.std.proofs.Common.{◌≤◌}
use Rattle.std.specs.Prelude.{IsTrue}
use Rattle.memchr.specs.Find.{Nowhere}
use Rattle.byte_kernels.proofs.scan.last.Given as goal

abbrev pub invariant-loop-to : goal.invariant-loop-to
invariant-loop-to g l = (l.to ≤ l.count) × Nowhere (λ place. IsTrue (g.P.Places.meets l.places place)) l.to l.count

abbrev pub decreases-loop-to : goal.decreases-loop-to
decreases-loop-to g l = l.to
