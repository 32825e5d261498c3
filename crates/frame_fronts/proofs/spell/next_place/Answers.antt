-- Less than a lane is behind it.
use Rattle.std.proofs.Common.{arith}
use Rattle.frame_fronts.proofs.spell.next_place.Goals as goal

pub returns-in_default-clause-left : goal.returns-in_default-clause-left
returns-in_default-clause-left c = λ p more whole possible enough. absurd (omega (arith, enough, c.in_default.ensures.none p more whole))
