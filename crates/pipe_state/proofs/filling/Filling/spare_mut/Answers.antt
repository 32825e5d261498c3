use Rattle.std.proofs.Common.{refl}
use Rattle.pipe_state.proofs.FreeLemmas.{lent}
use Rattle.pipe_state.proofs.filling.Filling.spare_mut.Goals as goal

pub returns : goal.returns
returns c =
    let f = c.self.inside in (
      (refl, λ w. rw (← c.self.view_is) (lent f.tail f.front w)),
      record { lends = tt; value = rw (← c.self.view_is) c.spare_mut.ensures.value },
    )
