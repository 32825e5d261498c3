-- The lend lies in the chain.
use Rattle.std.proofs.Common.{◌≡◌, Some, ap, sym, subst, ◌∙◌, true}
use Rattle.std.specs.Prelude.{IsSome}
use Rattle.span_seq.specs.Sequence.{bytes}
use Rattle.pipe_core.specs.Lends.{lend}
use Rattle.pipe_turns.specs.Log.{calls_of}
use Rattle.pipe_shared.proofs.EndLemmas.{is_lending, lend_fits, lend_is, lent_is_lend}
use Rattle.pipe_shared.proofs.ends.ReaderEnd.lent.Goals as goal

pub whole-requires : goal.whole-requires
whole-requires c =
    let r = c.self.inside in
    let lending : r.lending ≡ true = is_lending r.lending r.part (subst (λ r. IsSome r.lent) (sym c.self.view_is) c.requires) in
    lend_fits r.seat r.part r.lending c.self.invariant lending

pub returns-clause-bytes : goal.returns-clause-bytes
returns-clause-bytes c =
    let r = c.self.inside in
    let lending : r.lending ≡ true = is_lending r.lending r.part (subst (λ r. IsSome r.lent) (sym c.self.view_is) c.requires) in
    subst (λ r. lend (calls_of r.seat.seen) ≡ Some (bytes c.whole.result)) c.self.view_is (lend_is r.seat r.part r.lending c.self.invariant lending ∙ ap Some (sym c.whole.ensures.bytes))

pub returns-clause-lent : goal.returns-clause-lent
returns-clause-lent c =
    let r = c.self.inside in
    let lending : r.lending ≡ true = is_lending r.lending r.part (subst (λ r. IsSome r.lent) (sym c.self.view_is) c.requires) in
    subst (λ r. r.lent ≡ Some (bytes c.whole.result)) c.self.view_is (lent_is_lend r.seat r.part r.lending c.self.invariant ∙ lend_is r.seat r.part r.lending c.self.invariant lending ∙ ap Some (sym c.whole.ensures.bytes))
