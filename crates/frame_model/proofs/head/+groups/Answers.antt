-- What the groups behind one tell is small.
use Rattle.std.proofs.Common.{arith, ◌-◌}
use Rattle.frame_model.proofs.HeadLemmas.{small_heads}
use Rattle.frame_model.proofs.head.+groups.Goals as goal

pub behind_group-requires-clause-small : goal.behind_group-requires-clause-small
behind_group-requires-clause-small t c =
    small_heads (c.args.most - 1) c.in-Some.field-0-1.now c.groups.result (omega (arith, c.requires)) c.groups.ensures
