-- A shift by 4 bits is a quotient.
use Rattle.std.proofs.Common.{◌<◌, ◌/◌, sym, subst, arith}
use Rattle.std.specs.Simd.Lanes.{Each1}
use Rattle.byte_kernels.proofs.TableLemmas.{high_halves_are, Each1-map}
use Rattle.byte_kernels.proofs.table.high_halves.Goals as goal

pub returns-clause-value : goal.returns-clause-value
returns-clause-value c = high_halves_are c.args.bytes c.fits-bytes.0

pub returns-clause-small : goal.returns-clause-small
returns-clause-small c =
    subst (Each1 (λ half. half < 16)) (sym (high_halves_are c.args.bytes c.fits-bytes.0))
    (Each1-map _ (λ half. half < 16) (λ byte. byte / 16) (λ byte fits. omega (arith, fits.fits)) c.args.bytes c.fits-bytes.1)
