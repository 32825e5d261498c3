-- All bits but those of the other test.
use Rattle.byte_kernels.proofs.LaneLemmas.{lanes_of_others}
use Rattle.byte_kernels.proofs.byte_test.NotByteTest.lanes.Goals as goal

pub returns : goal.returns
returns g c = lanes_of_others (g.T.ByteTest.meets c.args.self.now.0.now) c.args.bytes c.lanes.result c.fits-bytes.0 c.lanes.ensures
