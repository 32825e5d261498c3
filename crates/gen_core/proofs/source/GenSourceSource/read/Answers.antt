-- Bytes of one frame more.
use Rattle.std.proofs.Common.{◌++◌, take, drop, ap, sym, ◌∙◌, arith, append_assoc, ℕ, List}
use Rattle.std.proofs.lemmas.List.{length-append, length-take, take-append-drop}
use Rattle.gen_core.proofs.GenLemmas.{copied_more}
use Rattle.gen_core.proofs.source.GenSourceSource.read.Goals as goal

pub loop-done-preserved : goal.loop-done-preserved
loop-done-preserved c =
    let so_far = c.loop-done.invariant in
    let n = c.give-given.result in
    let more = take n c.loop-done.self in
    let gives = c.give-given.ensures in
    record {
      given = so_far.given ++ more;
      parts = so_far.parts ∙ ap (λ (l : List ℕ). so_far.given ++ l) (sym (take-append-drop n c.loop-done.self)) ∙ sym (append_assoc so_far.given more (drop n c.loop-done.self)) ∙ ap (λ (l : List ℕ). (so_far.given ++ more) ++ l) (sym gives.left);
      counted = omega (arith, so_far.counted, length-append so_far.given more, length-take n c.loop-done.self, gives.within.0);
      copied = copied_more so_far.given more c.args.buf.now c.loop-done.buf c.give-given.new.buf c.loop-done.done n so_far.counted (omega (arith, length-take n c.loop-done.self, gives.within.0)) so_far.copied gives.given;
    }
