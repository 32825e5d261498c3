use Rattle.std.proofs.Common.{rules, sym, ◌≡◌, ◌%◌, ◌∙◌, ap, arith, ◌∷◌, Some}
use Rattle.atomic_table.specs.Table.{rest}
use Rattle.turn_cell.specs.Rule.{carried, shown}
use Rattle.turn_cell.proofs.StepLemmas.{tries}
use Rattle.turn_cell.proofs.SeatLemmas.{state_there, taken_by}
use Rattle.turn_cell.proofs.cell.TurnCell.try_take.Goals as goal

pub fetch_or-word-requires : goal.fetch_or-word-requires
fetch_or-word-requires g c =
    let is = c.seat.view_is in
    let cell = c.self.view_is in (
      ap (λ s. s.table) is ∙ (c.requires.0.table ∙ sym (ap (λ s. s.table) cell)),
      search rules,
      tries g.S.Stands.stands g.S.Stands.name _ _ _ _ _ _ (c.seat.invariant.0 ∙ ap carried (ap (λ s. s.holds) is ∙ c.requires.1))
          (ap (λ s. s.name) is ∙ (c.requires.0.named ∙ ap Some (sym (ap (λ s. s.name) cell)))),
    )

pub exchange-requires : goal.exchange-requires
exchange-requires g c =
    let even : c.fetch_or-word.result % 2 ≡ 0 = grind arith in
    let w = c.fetch_or-word.ensures.2.0 even in
    let after = ap (λ m. m.1) w.after in (
      c.fetch_or-word.ensures.0 ∙ (ap (λ s. s.table) c.seat.view_is ∙ (c.requires.0.table ∙ sym (ap (λ s. s.table) c.self.view_is))),
      (Some w.state, after ∙ ap (λ l. (0, Some w.state) ∷ l) (sym (ap rest after))),
    )

pub returns-clause-taken : goal.returns-clause-taken
returns-clause-taken g c =
    let even : c.fetch_or-word.result % 2 ≡ 0 = grind arith in
    let w = c.fetch_or-word.ensures.2.0 even in
    let e = c.exchange.ensures in
    let same = state_there _ _ _ _ _ (sym e.2 ∙ ap (λ m. m.1) w.after) c.in-Some.is in
    taken_by g.S.Stands.stands g.S.Stands.name c.seat.inside.seat.table_id _ _ _ w _ _ _ c.seat.view_is (λ i. shown ((e.0 ∙ c.fetch_or-word.ensures.0) i) (ap (λ m. m.0) e.3 i)) same (grind arith)
