-- The first place is the first position.
use Rattle.byte_kernels.proofs.PlaceLemmas.{first_is_position}
use Rattle.byte_kernels.proofs.search.first_with.Goals as goal

pub returns : goal.returns
returns g c = first_is_position (g.T.ByteTest.meets c.args.test.now) c.args.hay.now c.first.result c.first.ensures
