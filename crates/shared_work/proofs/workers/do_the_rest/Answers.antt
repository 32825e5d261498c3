use Rattle.std.proofs.Common.{◌≡◌, ◌≤◌, ◌<◌, ◌∙◌, ◌++◌, ◌∷◌, [], refl, ap, sym, subst, length, arith}
use Rattle.crossbeam_queue.specs.Passes.{view}
use Rattle.shared_work.specs.declared.placed.WorkerView.{WorkerView}
use Rattle.shared_work.specs.Tasks.{AreTaken, IsTaken, whole, with_taken}
use Rattle.shared_work.specs.Workers.{Does}
use Rattle.shared_work.proofs.WorkerLemmas.{one_fits, works_on}
use Rattle.shared_work.proofs.StepLemmas.{all_taken, learns, takes, taken_few}
use Rattle.shared_work.proofs.workers.do_the_rest.Goals as goal

pub pop_as-requires-clause-rule : goal.pop_as-requires-clause-rule
pop_as-requires-clause-rule g c = (takes c.loop.worker.pass.id (view c.loop.worker.pass) c.loop.invariant.0.some_part, learns c.loop.worker.pass.id (view c.loop.worker.pass))

pub returns-in_default-clause-taken : goal.returns-in_default-clause-taken
returns-in_default-clause-taken g c =
    let told = c.in_default.ensures.rule in
    subst (λ (v : WorkerView _). AreTaken v.all v.taken) (sym told.0) (all_taken (view c.loop.worker.pass) told.1.0 told.1.2 (c.loop.invariant.1.parts ∙ c.requires.all) told.1.1)

pub push_reserved-requires : goal.push_reserved-requires
push_reserved-requires g c =
    let v = view c.loop.worker.pass in
    let w = view c.pop_as.new.pass in
    let is : w ≡ with_taken c.in-Some-pop_as.task v = c.in-Some-pop_as.ensures.rule.0 in
    let stands = c.learn_as.ensures.rule in
    let few = taken_few w stands.0 stands.1 (let p = ap (λ (s : WorkerView _). s.parts) is in let q = c.loop.invariant.0.some_part in omega (arith, p, q)) in
    one_fits (Does (g.W.Work.gives c.args.work.now)) v w c.in-Some-pop_as.task c.loop.worker.done is c.loop.invariant.0.done few (omega (arith, c.requires.room, c.loop.invariant.1.room, ap (λ l. length l) c.loop.invariant.1.all))

pub loop-preserved : goal.loop-preserved
loop-preserved g c =
    let is = c.learn_as.ensures.queue.1 ∙ c.in-Some-pop_as.ensures.rule.0 in
    let same = c.learn_as.ensures.queue.0 in
    let was = c.pop_as.ensures.queue in
    works_on (g.W.Work.gives c.args.work.now) c.args.queue.now c.args.pool.now c.args.worker c.loop.worker c.learn_as.new.pass c.run-it.new.pass c.push_reserved.new.self c.in-Some-pop_as.task c.in-Some-pop_as.task.place c.run-it.result
    c.loop.invariant (same.0 ∙ was.0, same.1 ∙ was.1, same.2 ∙ was.2) (is, c.in-Some-pop_as.ensures.rule.1) c.run-it.ensures.pool c.run-it.ensures.out refl (omega (arith, c.push_reserved.ensures.capacity)) c.run-it.ensures.done
    c.push_reserved.ensures.items
