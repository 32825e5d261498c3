-- Behind the last byte of the set is none.
use Rattle.std.proofs.Common.{◌-◌, sym, ◌∙◌, arith}
use Rattle.byte_kernels.specs.ByteSet.{contains}
use Rattle.byte_kernels.proofs.PlaceLemmas.{last_found, last_nowhere}
use Rattle.byte_kernels.proofs.plain.last_index_of_any.Goals as goal

pub returns-then-contains : goal.returns-then-contains
returns-then-contains c = last_found (contains c.args.set.now) c.args.hay.now (c.loop-index.index - 1) (omega arith) (λ k low high. c.loop-index.invariant.1 k (omega arith) high) (sym c.contains.ensures ∙ c.if-contains.true)

pub returns : goal.returns
returns c = last_nowhere (contains c.args.set.now) c.args.hay.now (λ k lt. c.loop-index.invariant.1 k (omega arith) lt)
