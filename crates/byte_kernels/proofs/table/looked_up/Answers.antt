-- Each index is below 16, so that no lane is made 0.
use Rattle.std.proofs.Common.{refl, arith, w8}
use Rattle.std.proofs.lemmas.Simd.{SwzOk-from_below}
use Rattle.byte_kernels.proofs.TableLemmas.{looked_up_is}
use Rattle.byte_kernels.proofs.table.looked_up.Goals as goal

pub swizzle : goal.swizzle
swizzle c = SwzOk-from_below w8 16 1 16 0 c.args.at refl (omega (arith, c.fits-at.0)) c.requires

pub returns : goal.returns
returns c = looked_up_is c.args.table c.args.at c.fits-at.0 c.requires
