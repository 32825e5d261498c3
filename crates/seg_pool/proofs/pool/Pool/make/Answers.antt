use Rattle.seg_pool.proofs.MomentLemmas.{begins}
use Rattle.seg_pool.proofs.pool.Pool.make.Goals as goal

pub ruled-requires-clause-rule : goal.ruled-requires-clause-rule
ruled-requires-clause-rule c = begins
