-- The bits of either test.
use Rattle.byte_kernels.proofs.LaneLemmas.{lanes_of_either}
use Rattle.byte_kernels.proofs.byte_test.EitherByteTest.lanes.Goals as goal

pub returns : goal.returns
returns g c = lanes_of_either (g.A.ByteTest.meets c.args.self.now.0) (g.B.ByteTest.meets c.args.self.now.1) c.args.bytes c.lanes.result c.lanes-2.result c.lanes.ensures c.lanes-2.ensures
