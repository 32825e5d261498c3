-- What the groups behind the first tell is small.
use Rattle.std.proofs.Common.{arith}
use Rattle.frame_model.proofs.HeadLemmas.{small_heads}
use Rattle.frame_model.proofs.head.grouped.Goals as goal

pub behind_group-requires-clause-small : goal.behind_group-requires-clause-small
behind_group-requires-clause-small c = small_heads 3 c.in-Some.field-0-1.now c.groups.result (omega arith) c.groups.ensures
