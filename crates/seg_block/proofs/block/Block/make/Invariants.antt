use Rattle.std.proofs.Common.{◌≡◌}
use Rattle.seg_block.proofs.block.Block.make.Given as goal

abbrev pub invariant-loop : goal.invariant-loop
invariant-loop l = (l.bytes.len ≡ l.counter) × (l.bytes.cap ≡ l.initial.size) × (l.bytes.ptr ≡ l.initial.bytes.ptr) × (l.size ≡ l.fn.size)
