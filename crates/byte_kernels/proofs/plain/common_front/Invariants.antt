-- What was passed is alike.
use Rattle.std.proofs.Common.{◌≡◌, ℕ, ◌<◌, true, not, eqb, get_or}
use Rattle.byte_kernels.proofs.plain.common_front.Given as goal

abbrev pub invariant-loop-index : goal.invariant-loop-index
invariant-loop-index l = (k : ℕ) → k < l.index → ¬ (not (eqb (get_or l.a k 0) (get_or l.b k 0)) ≡ true)
