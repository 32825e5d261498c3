use Rattle.std.proofs.Common.{ap, arith}
use Rattle.pipe_state.specs.Chains.{first_len}
use Rattle.pipe_state.specs.Fetched.{all_fetched}
use Rattle.pipe_state.proofs.chain.Chain.release.Goals as goal

pub overflow_add-self : goal.overflow_add-self
overflow_add-self c =
    let first = c.send_whole-rest.ensures.first in let is = c.first_len-len.ensures in let skip = ap (λ s. s.skip) c.self.view_is in
    let len = ap (λ s. first_len (all_fetched s.links)) c.self.view_is in
    omega arith
