-- No byte fails the test.
use Rattle.std.proofs.Common.{sym, ◌∙◌}
use Rattle.byte_kernels.proofs.PlaceLemmas.{all_meet}
use Rattle.byte_kernels.proofs.byte_set.first_other.Goals as goal

pub returns-in-None : goal.returns-in-None
returns-in-None g c = all_meet (g.T.ByteTest.meets c.args.test.now) c.args.bytes.now (sym c.in-None.is ∙ c.first_without.ensures)
