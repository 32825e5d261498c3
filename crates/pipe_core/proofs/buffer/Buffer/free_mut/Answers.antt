-- What the borrower writes stands in the window behind the draft.
use Rattle.std.proofs.Common.{refl}
use Rattle.pipe_core.proofs.BufferLemmas.{lent_free}
use Rattle.pipe_core.proofs.buffer.Buffer.free_mut.Goals as goal

pub returns : goal.returns
returns c =
    let b = c.self.inside in (
      (refl, λ w. rw (← c.self.view_is) (lent_free b.room b.capacity b.start b.committed b.end w c.self.invariant)),
      record { lends = tt; value = rw (← c.self.view_is) c.slice_mut.ensures.value },
    )
