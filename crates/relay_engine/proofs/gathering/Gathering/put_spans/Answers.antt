-- Span by span.
use Rattle.std.proofs.Common.{[], refl, ◌++◌, List, ℕ, sym, ap, ◌∙◌, append_assoc}
use Rattle.span_seq.specs.Sequence.{bytes}
use Rattle.relay_engine.proofs.GatherLemmas.{front_within, on_err, puts_more, puts_nothing}
use Rattle.relay_engine.proofs.gathering.Gathering.put_spans.Goals as goal

pub loop-first-init : goal.loop-first-init
loop-first-init g c = record { done = []; parts = refl; puts = puts_nothing _ _ }

pub returns-in_err-put-clause-failed : goal.returns-in_err-put-clause-failed
returns-in_err-put-clause-failed g c =
    let so_far = c.loop-first.invariant in
    let whole = so_far.parts ∙ ap (λ (xs : List ℕ). so_far.done ++ xs) c.in-Some.ensures.bytes in
    on_err c.from_residual.result (front_within _ _ _ _ _ _ (bytes c.args.seq.now) so_far.done c.in-Some.first.now (bytes c.in-Some.behind) whole so_far.puts c.in_err-put.ensures.failed)

pub loop-first-preserved : goal.loop-first-preserved
loop-first-preserved g c =
    let so_far = c.loop-first.invariant in
    let first = c.in-Some.first.now in
    record {
      done = so_far.done ++ first;
      parts = so_far.parts ∙ ap (λ (xs : List ℕ). so_far.done ++ xs) c.in-Some.ensures.bytes ∙ sym (append_assoc so_far.done first (bytes c.in-Some.behind));
      puts = puts_more _ _ _ _ _ _ so_far.done first so_far.puts c.in_ok-put.ensures.put;
    }
