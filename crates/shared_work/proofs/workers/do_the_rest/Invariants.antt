use Rattle.shared_work.specs.Workers.{IsWorkerOf, SameWorker}
use Rattle.shared_work.proofs.workers.do_the_rest.Given as goal

abbrev pub invariant-loop : goal.invariant-loop
invariant-loop g l = IsWorkerOf (g.W.Work.gives l.work) l.queue l.pool l.worker × SameWorker l.fn.worker l.worker
