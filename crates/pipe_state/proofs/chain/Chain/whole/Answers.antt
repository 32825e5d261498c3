use Rattle.std.proofs.Common.{◌≤◌, sym, subst, ap, length, ◌∙◌, arith}
use Rattle.pipe_state.specs.Fetched.{all_fetched}
use Rattle.pipe_state.specs.Chains.{ChainState, first_len}
use Rattle.pipe_state.proofs.SpanLemmas.{lent_bytes, spans_bytes}
use Rattle.pipe_state.proofs.chain.Chain.whole.Goals as goal

pub whole_with_len-requires-clause-counted : goal.whole_with_len-requires-clause-counted
whole_with_len-requires-clause-counted c =
    let chain = c.args.self.now in
    let within = subst (λ (s : ChainState). s.skip ≤ first_len (all_fetched s.links)) c.self.view_is c.self.invariant.within in
    c.in-Some.ensures ∙ sym (ap length (spans_bytes chain.skip (all_fetched chain.links) within))

pub whole-requires : goal.whole-requires
whole-requires c =
    let chain = c.args.self.now in
    let within = subst (λ (s : ChainState). s.skip ≤ first_len (all_fetched s.links)) c.self.view_is c.self.invariant.within in
    let same = ap length (spans_bytes chain.skip (all_fetched chain.links) within) in let fits = c.requires in omega arith

pub returns-in-Some-clause-bytes : goal.returns-in-Some-clause-bytes
returns-in-Some-clause-bytes c =
    let within = subst (λ (s : ChainState). s.skip ≤ first_len (all_fetched s.links)) c.self.view_is c.self.invariant.within in
    lent_bytes c.args.self.now.skip (all_fetched c.args.self.now.links) _ within c.whole_with_len.ensures.part

pub returns-in-None-clause-bytes : goal.returns-in-None-clause-bytes
returns-in-None-clause-bytes c =
    let within = subst (λ (s : ChainState). s.skip ≤ first_len (all_fetched s.links)) c.self.view_is c.self.invariant.within in
    lent_bytes c.args.self.now.skip (all_fetched c.args.self.now.links) _ within c.whole.ensures.part
