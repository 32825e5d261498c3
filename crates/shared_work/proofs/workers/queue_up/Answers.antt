use Rattle.std.proofs.Common.{◌≡◌, ◌≤◌, ◌<◌, ◌∙◌, ◌++◌, ap, sym, length, arith}
use Rattle.std.proofs.lemmas.List.{length-append}
use Rattle.crossbeam_queue.specs.Passes.{view}
use Rattle.shared_work.specs.declared.placed.WorkerView.{WorkerView}
use Rattle.shared_work.specs.Tasks.{view_with, whole}
use Rattle.shared_work.proofs.StepLemmas.{begins, learns, puts, queued_few}
use Rattle.shared_work.proofs.workers.queue_up.Goals as goal

pub push_as-requires-clause-rule : goal.push_as-requires-clause-rule
push_as-requires-clause-rule g c =
    let i = c.loop-it.invariant in (
      puts _ c.loop-it.pass.id (view c.loop-it.pass) _ (ap (λ (s : WorkerView _). s.parts) i.1) (i.2 ∙ sym (ap (λ (s : WorkerView _). length s.all) i.1)),
      learns c.loop-it.pass.id (view c.loop-it.pass),
    )

pub unreachable-requires : goal.unreachable-requires
unreachable-requires g c =
    let i = c.loop-it.invariant in
    let held = c.in_default.ensures.rule.2 in
    let parts = ap (λ (s : WorkerView _). s.parts) i.1 in
    let few = queued_few (view c.loop-it.pass) held.0 held.2 (omega (arith, parts)) in
    let l = ap (λ (s : WorkerView _). length s.all) i.1 in
    let all = ap length i.3 in
    let parts_of = length-append c.loop-it.yielded c.loop-it.it-iterator.rest.items in
    let some = ap length c.in-Some.ensures.steps.0 in
    let cap = held.1 in
    omega (arith, few, l, all, parts_of, some, cap, i.4)
