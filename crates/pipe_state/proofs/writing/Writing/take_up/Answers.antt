use Rattle.std.proofs.Common.{◌+◌, ◌-◌, ◌<◌, ◌≤◌, length, max, ap, sym, subst, ◌∙◌}
use Rattle.pipe_state.specs.Segments.{AreInOrder}
use Rattle.pipe_state.specs.Writing.{TakeUp}
use Rattle.pipe_state.proofs.FullLemmas.{takes_up}
use Rattle.pipe_state.proofs.writing.Writing.take_up.Goals as goal

pub returns : goal.returns
returns c =
    let w = c.self.inside in let s = c.args.segments.now in
    subst (λ v. TakeUp (v.size - max v.has.hint c.args.hint + 1) v) c.self.view_is
    (takes_up w.left w.current w.drafted w.count w.size c.args.hint w.half.value s.home s.live s.blocks c.self.invariant
    (subst (λ u. AreInOrder s.home s.live u.segments s.blocks) (sym (ap (λ v. v.has) c.self.view_is ∙ c.requires.same)) c.order.ensures) c.room-free.ensures.size
    (subst (λ v. length v.free < c.args.hint) (sym c.self.view_is) c.requires.short) (subst (λ v. c.args.hint ≤ v.size) (sym c.self.view_is) c.requires.fits) w.half.name)
