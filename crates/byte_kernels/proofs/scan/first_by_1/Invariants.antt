-- No place was passed that meets the test.
use Rattle.std.specs.Prelude.{IsTrue}
use Rattle.memchr.specs.Find.{Nowhere}
use Rattle.byte_kernels.proofs.scan.first_by_1.Given as goal

abbrev pub invariant-loop-place : goal.invariant-loop-place
invariant-loop-place g l = Nowhere (λ place. IsTrue (g.P.Places.meets l.places place)) l.start l.place
