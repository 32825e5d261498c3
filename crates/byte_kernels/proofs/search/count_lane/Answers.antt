-- One bit for each.
use Rattle.std.specs.Prelude.{◌==◌}
use Rattle.byte_kernels.proofs.LaneLemmas.{count_of_load}
use Rattle.byte_kernels.proofs.search.count_lane.Goals as goal

pub returns : goal.returns
returns c = count_of_load (λ other. other == c.args.byte) c.args.from c.args.hay.now c.lanes-hits.result c.requires c.lanes-hits.ensures
