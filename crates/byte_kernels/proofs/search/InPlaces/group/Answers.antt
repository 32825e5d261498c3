-- The load has the bytes of 16 places.
use Rattle.byte_kernels.proofs.LaneLemmas.{marks_of_load_lanes}
use Rattle.byte_kernels.proofs.search.InPlaces.group.Goals as goal

pub returns : goal.returns
returns g c = marks_of_load_lanes (g.T.ByteTest.meets c.args.self.now.test.now) c.args.from c.args.self.now.hay.now c.lanes-lanes.result c.requires c.lanes-lanes.ensures
