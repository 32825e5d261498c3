-- The last place is the last position.
use Rattle.byte_kernels.proofs.PlaceLemmas.{last_is_position}
use Rattle.byte_kernels.proofs.search.last_with.Goals as goal

pub returns : goal.returns
returns g c = last_is_position (g.T.ByteTest.meets c.args.test.now) c.args.hay.now c.last.result c.last.ensures
