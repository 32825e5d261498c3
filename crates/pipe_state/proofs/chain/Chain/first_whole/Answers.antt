use Rattle.std.proofs.Common.{◌≡◌, ◌+◌, length, ap, sym, ◌∙◌, arith, Some, None}
use Rattle.std.specs.Prelude.{option_copied, slice_get}
use Rattle.pipe_state.specs.Fetched.{all_fetched}
use Rattle.pipe_state.specs.Chains.{first_len}
use Rattle.pipe_state.specs.Released.{first_goes}
use Rattle.pipe_state.proofs.chain.Chain.first_whole.Goals as goal
use Rattle.pipe_state.proofs.ReleaseLemmas.{first_len_is, going_stays, longer_stays, finished_goes, none_goes}

pub overflow_sub-len : goal.overflow_sub-len
overflow_sub-len c =
    let first : slice_get c.self.inside.links.items 0 ≡ Some c.in-Some.link.now = sym c.front.ensures ∙ ap option_copied c.in-Some.is in
    let is = first_len_is c.self.inside.links.items c.in-Some.link.now first in
    let within = c.self.invariant.within in
    omega (arith, is, within, ap length c.seen.ensures)

pub returns-then-is_none-clause-none : goal.returns-then-is_none-clause-none
returns-then-is_none-clause-none c =
    let first : slice_get c.self.inside.links.items 0 ≡ Some c.in-Some.link.now = sym c.front.ensures ∙ ap option_copied c.in-Some.is in
    ap (λ s. first_goes (s.skip + c.args.n) (all_fetched s.links)) (sym c.self.view_is)
    ∙ going_stays c.self.inside.links.items c.in-Some.link.now (c.self.inside.skip + c.args.n) first (grind (arith, c.if-is_none.true, c.is_none.ensures))

pub returns-then-len-n-clause-some : goal.returns-then-len-n-clause-some
returns-then-len-n-clause-some c =
    let first : slice_get c.self.inside.links.items 0 ≡ Some c.in-Some.link.now = sym c.front.ensures ∙ ap option_copied c.in-Some.is in
    let is = first_len_is c.self.inside.links.items c.in-Some.link.now first in
    let within = c.self.invariant.within in
    let seen = ap length c.seen.ensures in
    let short = c.if-len-n.true in
    let len = ap (λ s. first_len (all_fetched s.links)) c.self.view_is in
    let skip = ap (λ s. s.skip) c.self.view_is in (
      ap (λ s. first_goes (s.skip + c.args.n) (all_fetched s.links)) (sym c.self.view_is)
          ∙ finished_goes c.self.inside.links.items c.in-Some.link.now (c.self.inside.skip + c.args.n) first (grind (arith, c.if-is_none.false, c.is_none.ensures)) (omega arith),
      omega arith,
      short,
    )

pub returns-else-len-n-clause-none : goal.returns-else-len-n-clause-none
returns-else-len-n-clause-none c =
    let first : slice_get c.self.inside.links.items 0 ≡ Some c.in-Some.link.now = sym c.front.ensures ∙ ap option_copied c.in-Some.is in
    let seen = ap length c.seen.ensures in
    let more = c.if-len-n.false in
    ap (λ s. first_goes (s.skip + c.args.n) (all_fetched s.links)) (sym c.self.view_is)
    ∙ longer_stays c.self.inside.links.items c.in-Some.link.now (c.self.inside.skip + c.args.n) first (omega arith)

pub returns-in-None-clause-none : goal.returns-in-None-clause-none
returns-in-None-clause-none c =
    let first : slice_get c.self.inside.links.items 0 ≡ None = sym c.front.ensures ∙ ap option_copied c.in-None.is in
    ap (λ s. first_goes (s.skip + c.args.n) (all_fetched s.links)) (sym c.self.view_is)
    ∙ none_goes c.self.inside.links.items (c.self.inside.skip + c.args.n) first
