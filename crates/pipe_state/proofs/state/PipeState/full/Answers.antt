use Rattle.std.proofs.Common.{length, ◌-◌, min, max, refl, ap, sym, subst, ◌∙◌, arith}
use Rattle.std.specs.Prelude.{IsNone}
use Rattle.pipe_state.specs.Segments.{AreSized}
use Rattle.pipe_state.specs.Full.{IsFull}
use Rattle.pipe_state.specs.declared.full.Full.{Full}
use Rattle.pipe_state.proofs.FullLemmas.{Found, is_full}
use Rattle.pipe_state.proofs.TakingLemmas.{few_unfinished}
use Rattle.pipe_state.proofs.state.PipeState.full.Goals as goal

pub overflow_sub-finished : goal.overflow_sub-finished
overflow_sub-finished c =
    let s = c.self.inside.segments in
    let few = few_unfinished s.home s.live s.writer.segments s.blocks c.order.ensures in
    let same = ap (λ w. length w.segments) (c.requires.same ∙ ap (λ p. p.segments.writer) (sym c.self.view_is)) in
    let counted = c.count.ensures in let us = c.unfinished_len-unfinished.ensures in
    omega arith

pub returns : goal.returns
returns c =
    let p = c.self.inside in let s = p.segments in let w = c.args.writing.now in
    let found : Found p.control s p.retired w c.args.hint = record {
      held = c.self.invariant;
      order = c.order.ensures;
      home = ap (λ v. v.segments.home) c.self.view_is ∙ c.requires.home;
      same = c.requires.same ∙ ap (λ v. v.segments.writer) (sym c.self.view_is);
      going = subst (λ v. IsNone v.control.ended) (sym c.self.view_is) c.requires.going;
      sizes = subst (λ v. AreSized w.size v.segments.blocks) (sym c.self.view_is) c.requires.sizes;
      count = ap (λ v. length v.segments.blocks) c.self.view_is ∙ c.requires.count;
      up = c.take_up.ensures;
    } in
    let unfinished = c.unfinished_len-unfinished.result in let finished = c.count.result - unfinished in
    let told : Full = record { writer = unfinished; waiting = finished - c.min-reader.result; reader = c.min-reader.result } in
    subst (λ v. IsFull (max w.has.hint c.args.hint) told v w) c.self.view_is
    (is_full p.control s p.retired w c.args.hint found told unfinished finished c.unfinished_len-unfinished.ensures (ap (λ n. n - unfinished) c.count.ensures) refl
    (c.min-reader.ensures ∙ ap (min finished) c.fetched_len.ensures) refl)
