use Rattle.std.proofs.Common.{◌≡◌, ◌≤◌, ◌<◌, ◌∙◌, [], refl, ap, sym, subst, length, arith}
use Rattle.crossbeam_queue.specs.Passes.{view}
use Rattle.shared_work.specs.declared.placed.WorkerView.{WorkerView}
use Rattle.shared_work.proofs.WorkerLemmas.{adds_none, adds_then}
use Rattle.shared_work.proofs.OrderLemmas.{complete, ordered}
use Rattle.shared_work.proofs.workers.run_all.Goals as goal

pub in_order-requires-clause-slots : goal.in_order-requires-clause-slots
in_order-requires-clause-slots g c =
    let r = c.do_the_rest-worker.result in
    let all = c.do_the_rest-worker.ensures.same.all ∙ c.share_out-worker.ensures.same.all ∙ ap (λ (s : WorkerView _). s.all) c.in_ok-queue.ensures.all in
    let k = complete (g.W.Work.gives c.args.work.now) _ c.args.tasks.items (view r.pass).taken r.done.items all c.do_the_rest-worker.ensures.taken c.do_the_rest-worker.ensures.worker.done in
    omega (arith, k.long, c.in_ok-slots.ensures, c.len-count.ensures, c.args.tasks.ok)

pub in_order-requires-clause-once : goal.in_order-requires-clause-once
in_order-requires-clause-once g c =
    let r = c.do_the_rest-worker.result in
    let all = c.do_the_rest-worker.ensures.same.all ∙ c.share_out-worker.ensures.same.all ∙ ap (λ (s : WorkerView _). s.all) c.in_ok-queue.ensures.all in
    (complete (g.W.Work.gives c.args.work.now) _ c.args.tasks.items (view r.pass).taken r.done.items all c.do_the_rest-worker.ensures.taken c.do_the_rest-worker.ensures.worker.done).once

pub in_order-requires-clause-room : goal.in_order-requires-clause-room
in_order-requires-clause-room g c =
    let r = c.do_the_rest-worker.result in
    let all = c.do_the_rest-worker.ensures.same.all ∙ c.share_out-worker.ensures.same.all ∙ ap (λ (s : WorkerView _). s.all) c.in_ok-queue.ensures.all in
    let k = complete (g.W.Work.gives c.args.work.now) _ c.args.tasks.items (view r.pass).taken r.done.items all c.do_the_rest-worker.ensures.taken c.do_the_rest-worker.ensures.worker.done in
    omega (arith, k.long, c.in_ok-list.ensures.capacity, c.len-count.ensures, c.args.tasks.ok)

pub returns-clause-done : goal.returns-clause-done
returns-clause-done g c =
    let r = c.do_the_rest-worker.result in
    let all = c.do_the_rest-worker.ensures.same.all ∙ c.share_out-worker.ensures.same.all ∙ ap (λ (s : WorkerView _). s.all) c.in_ok-queue.ensures.all in
    let k = complete (g.W.Work.gives c.args.work.now) _ c.args.tasks.items (view r.pass).taken r.done.items all c.do_the_rest-worker.ensures.taken c.do_the_rest-worker.ensures.worker.done in
    ordered (g.W.Work.gives c.args.work.now) c.args.tasks.items c.in_order.result.items (view r.pass).taken r.done.items k.are k.each c.in_order.ensures.places c.in_order.ensures.count

pub returns-clause-out : goal.returns-clause-out
returns-clause-out g c =
    let work = adds_then _ _ _ c.share_out-worker.ensures.same.out c.do_the_rest-worker.ensures.same.out in
    c.split_and_merged.ensures _ _ _ _ _ _ [] [] c.in_ok-blocks.ensures.split.1 c.in_ok-blocks.ensures.split.2 (adds_none c.split.new.pass.books) work c.merge.ensures.merged
