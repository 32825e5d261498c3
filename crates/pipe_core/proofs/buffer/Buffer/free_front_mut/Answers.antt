-- What the borrower writes stands in the window behind the draft, as where the loan is all of the free part.
use Rattle.std.proofs.Common.{◌≤◌, ◌+◌, refl, ap, arith, length, ◌∙◌}
use Rattle.pipe_core.specs.Bytes.{Bytes}
use Rattle.pipe_core.proofs.BufferLemmas.{lent_free, slice_front, slice_len}
use Rattle.pipe_core.proofs.buffer.Buffer.free_front_mut.Goals as goal

pub returns : goal.returns
returns c =
    let b = c.self.inside in
    let free = ap (λ (x : Bytes). length x.free) c.self.view_is in
    let fits : b.end + c.args.n ≤ b.start + b.capacity = omega (arith, c.requires, free, slice_len b.room.items b.end (b.start + b.capacity), c.self.invariant.free_in) in (
      (refl, λ w. rw (← c.self.view_is) (lent_free b.room b.capacity b.start b.committed b.end w c.self.invariant)),
      record { lends = tt; value = rw (← c.self.view_is) (c.slice_mut.ensures.value ∙ slice_front b.room.items b.end c.args.n (b.start + b.capacity) fits) },
    )
