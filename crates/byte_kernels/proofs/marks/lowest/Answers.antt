-- Below as many zeros as trail, no bit is set.
use Rattle.std.proofs.Common.{arith, w64}
use Rattle.std.proofs.lemmas.Nat.Bits.{bit_at-trailing_zeros}
use Rattle.byte_kernels.proofs.marks.lowest.Goals as goal

pub returns : goal.returns
returns c =
    let zeros = bit_at-trailing_zeros w64 c.args.marks (omega (arith, c.requires)) c.ranges.marks.fits in
    record { bound = zeros.0; set = zeros.1; below = zeros.2 }
