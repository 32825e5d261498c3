-- The set has the bytes that were passed.
use Rattle.std.proofs.Common.{◌≡◌, ℕ, eqb, take}
use Rattle.std.specs.List.{list_any}
use Rattle.byte_kernels.specs.ByteSet.{has}
use Rattle.byte_kernels.proofs.byte_set.table_of.Given as goal

abbrev pub invariant-loop-byte : goal.invariant-loop-byte
invariant-loop-byte l = (byte : ℕ) → has l.table byte ≡ list_any (λ member. eqb byte member) (take l.byte-index l.bytes)
