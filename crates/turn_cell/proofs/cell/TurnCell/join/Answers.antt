use Rattle.std.proofs.Common.{rules, sym, ◌∙◌, ap, Some}
use Rattle.turn_cell.specs.Rule.{carried}
use Rattle.turn_cell.proofs.MeetingLemmas.{joins}
use Rattle.turn_cell.proofs.cell.TurnCell.join.Goals as goal

pub join_seat-requires : goal.join_seat-requires
join_seat-requires g c =
    let v = c.requires.into in
    let w = c.requires.from in
    let is = c.into.view_is in
    let its = c.from.view_is in
    let table = sym (ap (λ s. s.table) c.self.view_is) in
    let name = ap Some (sym (ap (λ s. s.name) c.self.view_is)) in
    let free = ap (λ s. s.holds) its ∙ w.1 in (
      ap (λ s. s.table) is ∙ (v.0.table ∙ table),
      ap (λ s. s.table) its ∙ (w.0.table ∙ table),
      c.from.invariant.0 ∙ ap carried free,
      search rules,
      joins g.S.Stands.stands g.S.Stands.name _ _ _ _ _ _ (ap (λ s. s.name) is ∙ (v.0.named ∙ name)) (ap (λ s. s.name) its ∙ (w.0.named ∙ name)) (ap (λ s. s.holds) is ∙ v.1) free c.into.invariant.1,
    )
