-- No byte was passed that is in the set.
use Rattle.std.proofs.Common.{◌≡◌, ℕ, ◌<◌, ◌≤◌, true, length, get_or}
use Rattle.byte_kernels.specs.ByteSet.{contains}
use Rattle.byte_kernels.proofs.plain.last_index_of_any.Given as goal

abbrev pub invariant-loop-index : goal.invariant-loop-index
invariant-loop-index l = (l.index ≤ length l.hay) × ((k : ℕ) → l.index ≤ k → k < length l.hay → ¬ (contains l.set (get_or l.hay k 0) ≡ true))

abbrev pub decreases-loop-index : goal.decreases-loop-index
decreases-loop-index l = l.index
