-- The lend has ended, or stands.
use Rattle.std.proofs.Common.{◌≡◌, List, ℕ, Option, Some, ap, sym, subst, ◌∙◌, length}
use Rattle.std.specs.Prelude.{IsSomeAnd, ◌≤◌}
use Rattle.pipe_state.specs.declared.reading.Reading.{Reading}
use Rattle.pipe_shared.specs.Ends.{IsReader}
use Rattle.pipe_shared.proofs.EndLemmas.{lent_is_lend, reader_refused, reader_advances, reads_named}
use Rattle.pipe_shared.proofs.pipe.Pipe.try_advance.Goals as goal

pub advance-requires-clause-lent : goal.advance-requires-clause-lent
advance-requires-clause-lent c =
    subst (λ (l : Option (List ℕ)). IsSomeAnd l (λ bytes. (c.args.c ≤ c.args.e) × (c.args.e ≤ length bytes))) (ap (λ r. r.lent) (sym c.r.view_is) ∙ lent_is_lend c.r.inside.seat c.r.inside.part c.r.inside.lending c.r.invariant) c.requires.lent

pub invariant_of-r : goal.invariant_of-r
invariant_of-r c =
    let h = c.in_err-wake in
    subst (λ (part : Reading). IsReader c.advance.new.seat part c.r.inside.lending) (sym h.ensures.unchanged) (reader_refused h.field-0.0 c.r.inside.seat c.advance.new.seat c.r.inside.part c.r.inside.lending c.r.invariant h.ensures.refused)

pub invariant_of-r-2 : goal.invariant_of-r-2
invariant_of-r-2 c =
    let named : c.r.inside.seat.name ≡ Some c.self.inside.cell.name = ap (λ r. r.seat.name) c.r.view_is ∙ c.requires.pipe.named ∙ ap (λ p. Some p.name) (sym c.self.view_is) in
    reader_advances _ c.args.c c.args.e _ c.r.inside.seat c.advance.new.seat c.r.inside.part c.advance.new.part c.r.inside.lending c.r.invariant c.in_ok-wake.ensures.made
    (reads_named c.r.inside.seat c.self.inside.cell.name c.advance.new.part named c.in_ok-wake.ensures.part)
