-- Two comparisons with splats.
use Rattle.byte_kernels.proofs.LaneLemmas.{lanes_of_range}
use Rattle.byte_kernels.proofs.byte_test.WithinByteTest.lanes.Goals as goal

pub returns : goal.returns
returns c = lanes_of_range c.args.self.now.low c.args.self.now.high c.args.bytes c.fits-bytes.0
