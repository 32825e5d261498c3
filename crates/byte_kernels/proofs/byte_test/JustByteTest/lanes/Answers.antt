-- A comparison with a splat.
use Rattle.byte_kernels.proofs.LaneLemmas.{lanes_of_byte}
use Rattle.byte_kernels.proofs.byte_test.JustByteTest.lanes.Goals as goal

pub returns : goal.returns
returns c = lanes_of_byte c.args.self.now.0 c.args.bytes c.fits-bytes.0
