-- A completion that is tried again leaves the end, and the last one makes the entries.
use Rattle.std.proofs.Common.{sym, ◌∙◌, Err}
use Rattle.pipe_shared.specs.Waiting.{untried, tried}
use Rattle.pipe_shared.proofs.WaitingLemmas.{completion_tried, completes_once, refused_flush, refused_for_good, as_before}
use Rattle.pipe_shared.proofs.pipe.Pipe.complete.Goals as goal

pub loop-init : goal.loop-init
loop-init g c = record { pipe = c.requires; tried = untried }

pub loop-preserved : goal.loop-preserved
loop-preserved g c =
    let h = c.in-Err in
    let kept = h.ensures.kept in
    record {
      pipe = h.ensures.back.0;
      tried = tried c.loop.end h.field-0.end (Err h.field-0.fault) c.loop.invariant.tried (h.ensures.refused, record { draft = kept.0; free = kept.1; hint = h.ensures.kept.2 }) (sym c.is_tried_again.ensures ∙ c.if-not-is_tried_again.false);
    }

pub returns-in-Ok-clause-made : goal.returns-in-Ok-clause-made
returns-in-Ok-clause-made g c = completes_once c.args.self.now.name.options c.args.code c.args.w c.loop.end c.in-Ok.field-0-1 c.in-Ok.done c.loop.invariant.tried c.in-Ok.ensures.made

pub returns-then-not-is_tried_again-clause-too_much : goal.returns-then-not-is_tried_again-clause-too_much
returns-then-not-is_tried_again-clause-too_much g c =
    let h = c.in-Err in
    let before = completion_tried c.args.self.now.name.options c.args.code c.args.w c.loop.end c.loop.invariant.tried in
    refused_for_good h.field-0.fault c.loop.end h.field-0.end c.args.w.draft h.ensures.refused (sym c.is_tried_again.ensures ∙ c.if-not-is_tried_again.true) before.draft

pub returns-then-not-is_tried_again-clause-kept : goal.returns-then-not-is_tried_again-clause-kept
returns-then-not-is_tried_again-clause-kept g c =
    let h = c.in-Err in
    let before = completion_tried c.args.self.now.name.options c.args.code c.args.w c.loop.end c.loop.invariant.tried in
    let last = refused_flush h.field-0.fault c.loop.end h.field-0.end h.ensures.refused (record { draft = h.ensures.kept.0; free = h.ensures.kept.1; hint = h.ensures.kept.2 }) in
    let all = as_before c.args.w c.loop.end h.field-0.end before last in
    (all.draft, all.free, all.hint, all.own)
