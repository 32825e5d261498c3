-- A server serves as its connections were, or there is no memory to begin with.
use Rattle.relay_top.proofs.ServingLemmas.{no_pool, served_at}
use Rattle.relay_top.proofs.serving.serve.Goals as goal

pub returns-in_default : goal.returns-in_default
returns-in_default g c = λ source. no_pool _ _ _ _ source _ _ _ _ c.tell_no_memory.ensures.status c.tell_no_memory.ensures.told

pub returns : goal.returns
returns g c = λ source. served_at c.args.target.now c.args.count c.args.job.now c.status_of_end.result c.serve-end.result source _ _ _ _ _ _ c.serve-end.ensures.served c.status_of_end.ensures
