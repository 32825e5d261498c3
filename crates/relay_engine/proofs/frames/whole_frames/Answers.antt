-- Frame by frame, until one is longer than what is left.
use Rattle.std.proofs.Common.{[], refl, ◌<◌, ◌+◌, ◌-◌, length, drop, ap, sym, ◌∙◌, arith, zero-add, ℕ, List, subst}
use Rattle.std.proofs.lemmas.List.{drop-drop}
use Rattle.frame_grammar.specs.Job.{translation}
use Rattle.span_seq.specs.Sequence.{bytes}
use Rattle.relay_engine.proofs.BoundLemmas.{passes_few}
use Rattle.relay_engine.proofs.FrameLemmas.{passes_nothing}
use Rattle.relay_engine.proofs.WriteLemmas.{counts_one, counts_whole}
use Rattle.relay_engine.proofs.frames.whole_frames.Goals as goal

pub loop-payload-init : goal.loop-payload-init
loop-payload-init g c = record {
  len = 0;
  text = [];
  rest = refl;
  passes = passes_nothing c.args.job.now (bytes c.args.lent.now) c.args.at_end;
  left = sym (zero-add c.args.written);
  short = c.requires.short;
}

pub overflow_add-frames : goal.overflow_add-frames
overflow_add-frames g c = omega (arith, passes_few c.args.job.now (bytes c.args.lent.now) c.loop-payload.invariant.text c.args.at_end c.loop-payload.invariant.len c.loop-payload.frames c.loop-payload.invariant.passes, c.requires.small)

pub loop-payload-preserved : goal.loop-payload-preserved
loop-payload-preserved g c =
    let so_far = c.loop-payload.invariant in
    let first = rw so_far.rest at c.in-Ok.ensures.first in
    let size = rw (← c.from-more.ensures) at c.frame_len.ensures in
    let next = counts_one c.args.job.now (bytes c.args.lent.now) c.args.at_end c.args.written so_far.len c.loop-payload.frames c.loop-payload.left c.in-Ok.len c.from-more.result so_far.text (bytes c.in-Ok.payload) so_far.passes so_far.left (rw so_far.rest at so_far.short) first size (omega arith) in
    let rest = c.without_front-rest.ensures.bytes ∙ ap (λ (xs : List ℕ). drop c.in-Ok.len xs) so_far.rest ∙ drop-drop c.in-Ok.len so_far.len (bytes c.args.lent.now) in
    record {
      len = so_far.len + c.in-Ok.len;
      text = next.text;
      rest = rest;
      passes = next.passes;
      left = next.left;
      short = subst (λ (x : List ℕ). c.loop-payload.left - c.from-more.result < length (translation c.args.job.now x c.args.at_end).text) (sym rest) next.short;
    }

pub returns-then-more-left : goal.returns-then-more-left
returns-then-more-left g c =
    let so_far = c.loop-payload.invariant in
    let first = rw so_far.rest at c.in-Ok.ensures.first in
    let size = rw (← c.from-more.ensures) at c.frame_len.ensures in
    counts_whole c.args.job.now (bytes c.args.lent.now) c.args.at_end c.args.written so_far.len c.loop-payload.frames c.loop-payload.left c.in-Ok.len so_far.text (bytes c.in-Ok.payload) so_far.passes so_far.left first (omega (arith, size))
