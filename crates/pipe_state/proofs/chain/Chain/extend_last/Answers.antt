use Rattle.std.proofs.Common.{◌+◌, ◌-◌, ℕ, [], ◌∷◌, ◌++◌, length, sym, ap, subst, ◌∙◌, arith}
use Rattle.seg_block.specs.Words.{seen}
use Rattle.pipe_state.specs.Chains.{Counts}
use Rattle.pipe_state.specs.Fetched.{FitsLast, all_fetched, continue_last}
use Rattle.pipe_state.proofs.chain.Chain.extend_last.Goals as goal
use Rattle.pipe_state.proofs.ListLemmas.{no_last}
use Rattle.pipe_state.proofs.FetchedLemmas.{extended, extended_chain, last_link, none_to_fit}

pub learn-requires : goal.learn-requires
learn-requires c =
    let fits = subst (λ s. FitsLast (all_fetched s.links) c.args.mark.now c.args.end) (sym c.self.view_is) c.requires in
    (last_link c.self.inside.links.items c.in-Some.field-0 c.args.mark.now c.args.end (sym c.pop_back.ensures.value ∙ c.in-Some.is) fits).part

pub invariant_of-self : goal.invariant_of-self
invariant_of-self c =
    let fits = subst (λ s. FitsLast (all_fetched s.links) c.args.mark.now c.args.end) (sym c.self.view_is) c.requires in
    let is = ap (λ b. b.items) c.put_behind.ensures ∙ ap (λ b. b.items ++ record { front = c.learn.new.self; end = c.args.end } ∷ []) c.pop_back.ensures.items in
    let before = ap length c.seen-before.ensures in let after = ap length c.seen.ensures in
    let more : (n : ℕ) → Counts c.self.inside.held n → Counts c.count_more-self-inside.result (n + (length (seen c.learn.new.self) - length (seen c.in-Some.field-0.front))) =
    (λ n counts. subst (λ k. Counts c.count_more-self-inside.result (n + k)) (omega (arith, before, after)) (c.count_more-self-inside.ensures n counts)) in
    extended_chain c.self.inside.links.items c.put_behind.new.ring.items c.self.inside.skip c.self.inside.held c.count_more-self-inside.result c.in-Some.field-0 c.learn.new.self c.args.mark.now c.args.end
    (sym c.pop_back.ensures.value ∙ c.in-Some.is) fits is c.learn.ensures.front c.learn.ensures.mark c.learn.ensures.longer more c.self.invariant

pub unreachable-requires : goal.unreachable-requires
unreachable-requires c =
    let fits = subst (λ s. FitsLast (all_fetched s.links) c.args.mark.now c.args.end) (sym c.self.view_is) c.requires in
    none_to_fit c.self.inside.links.items c.args.mark.now c.args.end (no_last c.self.inside.links.items (sym c.pop_back.ensures.value ∙ c.in-None.is)) fits

pub returns-clause-fetched : goal.returns-clause-fetched
returns-clause-fetched c =
    let fits = subst (λ s. FitsLast (all_fetched s.links) c.args.mark.now c.args.end) (sym c.self.view_is) c.requires in
    let is = ap (λ b. b.items) c.put_behind.ensures ∙ ap (λ b. b.items ++ record { front = c.learn.new.self; end = c.args.end } ∷ []) c.pop_back.ensures.items in
    extended c.self.inside.links.items c.put_behind.new.ring.items c.in-Some.field-0 c.learn.new.self c.args.mark.now c.args.end
    (sym c.pop_back.ensures.value ∙ c.in-Some.is) fits is c.learn.ensures.front c.learn.ensures.mark c.learn.ensures.longer
    ∙ ap (λ s. continue_last (all_fetched s.links) c.args.mark.now c.args.end) c.self.view_is
