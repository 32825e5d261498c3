use Rattle.crossbeam_queue.specs.Passes.{view}
use Rattle.shared_work.proofs.StepLemmas.{forks}
use Rattle.shared_work.proofs.workers.fork.Goals as goal

pub another-pass-requires-clause-rule : goal.another-pass-requires-clause-rule
another-pass-requires-clause-rule g c = forks c.args.worker.now.pass.id (view c.args.worker.now.pass) c.requires.parts
