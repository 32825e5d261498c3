-- A span more that was copied.
use Rattle.std.proofs.Common.{◌≡◌, ◌+◌, ◌-◌, ◌++◌, length, ap, sym, ◌∙◌, arith, length-append, append_assoc}
use Rattle.span_seq.specs.Sequence.{bytes}
use Rattle.span_seq.proofs.SpanLemmas.{copied_more}
use Rattle.span_seq.proofs.sequence.Sequence.copy_to.Goals as goal

pub loop-first-preserved : goal.loop-first-preserved
loop-first-preserved g c =
    let i = c.loop-first.invariant in
    let first = c.in-Some.first.now in
    let done = c.loop-first.done in
    let len : done + length first - done ≡ length first = omega arith in
    record {
      before = i.before ++ first;
      parts = i.parts ∙ ap (λ l. i.before ++ l) c.in-Some.ensures.bytes ∙ sym (append_assoc i.before first (bytes c.in-Some.behind));
      counted = omega (arith, i.counted, length-append i.before first);
      copied = copied_more i.before first c.args.out.now c.loop-first.out c.copy_from_slice.new.self done (done + length first - done) i.counted len i.copied c.copy_from_slice.ensures.after;
    }
