use Rattle.std.proofs.Common.{◌≡◌, length, ap, sym, ◌∙◌, Some, None}
use Rattle.std.specs.Prelude.{option_copied, slice_get}
use Rattle.pipe_state.specs.Fetched.{all_fetched}
use Rattle.pipe_state.specs.Chains.{first_len}
use Rattle.pipe_state.proofs.ListLemmas.{no_first}
use Rattle.pipe_state.proofs.ReleaseLemmas.{first_len_is}
use Rattle.pipe_state.proofs.chain.Chain.first_len.Goals as goal

pub returns-in-Some : goal.returns-in-Some
returns-in-Some c =
    let first : slice_get c.self.inside.links.items 0 ≡ Some c.in-Some.link.now = sym c.front.ensures ∙ ap option_copied c.in-Some.is in
    ap length c.seen.ensures ∙ sym (first_len_is c.self.inside.links.items c.in-Some.link.now first) ∙ ap (λ s. first_len (all_fetched s.links)) c.self.view_is

pub returns-in-None : goal.returns-in-None
returns-in-None c =
    let none : slice_get c.self.inside.links.items 0 ≡ None = sym c.front.ensures ∙ ap option_copied c.in-None.is in
    ap (λ l. first_len (all_fetched l)) (sym (no_first c.self.inside.links.items none)) ∙ ap (λ s. first_len (all_fetched s.links)) c.self.view_is
