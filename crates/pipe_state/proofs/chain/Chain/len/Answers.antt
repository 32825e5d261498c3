use Rattle.std.proofs.Common.{◌≡◌, ◌-◌, ap, length, subst, ◌∙◌, arith}
use Rattle.pipe_core.specs.History.{bytes_of}
use Rattle.pipe_core.specs.Lends.{drop_bytes}
use Rattle.pipe_state.specs.Chains.{ChainState, Counts}
use Rattle.pipe_state.specs.Fetched.{all_fetched}
use Rattle.pipe_state.specs.Lying.{runs_of}
use Rattle.pipe_state.specs.Released.{bytes_in}
use Rattle.pipe_state.proofs.HeldLemmas.{runs_bytes}
use Rattle.pipe_state.proofs.LyingLemmas.{cut_len}
use Rattle.pipe_state.proofs.chain.Chain.len.Goals as goal

pub returns : goal.returns
returns c =
    let chain = c.self.inside in let fetched = all_fetched chain.links.items in
    let counted : c.in_ok-self.field-0 ≡ length (bytes_in fetched) = subst (λ h. Counts h (length (bytes_in fetched))) c.in_ok-self.was c.self.invariant.counted in
    let all = ap length (runs_bytes fetched) in let cut = cut_len chain.skip (runs_of fetched) in
    let here : c.in_ok-self.field-0 - chain.skip ≡ length (bytes_of (drop_bytes chain.skip (runs_of fetched))) = omega arith in
    here ∙ ap (λ (s : ChainState). length (bytes_of (drop_bytes s.skip (runs_of (all_fetched s.links))))) c.self.view_is
