use Rattle.std.proofs.Common.{arith, refl, ap, ◌∙◌, ◌++◌, ◌∷◌, []}
use Rattle.crossbeam_queue.specs.Passes.{view}
use Rattle.shared_work.proofs.WorkerLemmas.{works_on}
use Rattle.shared_work.proofs.StepLemmas.{learns, takes}
use Rattle.shared_work.proofs.workers.do_tasks.Goals as goal

pub pop_as-requires-clause-rule : goal.pop_as-requires-clause-rule
pop_as-requires-clause-rule g c = (takes c.loop.worker.pass.id (view c.loop.worker.pass) c.loop.invariant.0.some_part, learns c.loop.worker.pass.id (view c.loop.worker.pass))

pub loop-preserved : goal.loop-preserved
loop-preserved g c =
    works_on (g.W.Work.gives c.args.work.now) c.args.queue.now c.args.pool.now c.args.worker c.loop.worker c.pop_as.new.pass c.run-it.new.pass c.push_reserved.new.self c.in-Some-pop_as.task c.in-Some-pop_as.task.place c.run-it.result
    c.loop.invariant c.pop_as.ensures.queue c.in-Some-pop_as.ensures.rule c.run-it.ensures.pool c.run-it.ensures.out refl (omega (arith, c.reserve.ensures.capacity, c.push_reserved.ensures.capacity)) c.run-it.ensures.done
    (c.push_reserved.ensures.items ∙ ap (λ l. l ++ record { place = c.in-Some-pop_as.task.place; it = c.run-it.result } ∷ []) c.reserve.ensures.items)
