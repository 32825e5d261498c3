-- A mask of 4 bits is a remainder.
use Rattle.std.proofs.Common.{◌<◌, ◌%◌, sym, subst, arith}
use Rattle.std.specs.Simd.Lanes.{Each1}
use Rattle.byte_kernels.proofs.TableLemmas.{low_halves_are, Each1-map}
use Rattle.byte_kernels.proofs.table.low_halves.Goals as goal

pub returns-clause-value : goal.returns-clause-value
returns-clause-value c = low_halves_are c.args.bytes c.fits-bytes.0

pub returns-clause-small : goal.returns-clause-small
returns-clause-small c =
    subst (Each1 (λ half. half < 16)) (sym (low_halves_are c.args.bytes c.fits-bytes.0))
    (Each1-map _ (λ half. half < 16) (λ byte. byte % 16) (λ byte _. omega arith) c.args.bytes c.fits-bytes.1)
