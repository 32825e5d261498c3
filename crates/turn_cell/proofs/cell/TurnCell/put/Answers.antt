use Rattle.std.proofs.Common.{rules, refl, sym, subst, ◌≡◌, ◌∙◌, ap, ◌∷◌, ◌++◌, Some, length}
use Rattle.atomic_table.specs.Table.{rest}
use Rattle.turn_cell.specs.History.{made_by}
use Rattle.turn_cell.specs.Rule.{carried}
use Rattle.turn_cell.proofs.HistoryLemmas.{word_more, room_more}
use Rattle.turn_cell.proofs.StepLemmas.{puts}
use Rattle.turn_cell.proofs.cell.TurnCell.put.Goals as goal

pub store-requires : goal.store-requires
store-requires g c =
    let is = c.seat.view_is in
    let cell = c.self.view_is in
    let v = c.seat.inside.seat.me.0 in
    let x = c.held.inside.state in
    let es = g.A.Adds.entries in
    let holds = ap (λ s. s.holds) is ∙ c.requires.turn in
    let slot = c.seat.invariant.0 ∙ ap carried holds in
    let after = c.exchange.ensures.3 ∙ ap (λ l. (v, (0, Some x) ∷ l)) (ap rest slot) in
    let state = ap (λ h. h.state) c.held.view_is in
    let entries : c.held.inside.entries ≡ c.args.held.entries = ap (λ h. h.entries) c.held.view_is in
    let long : c.args.held.entries ≡ length v.seen = c.requires.held ∙ sym (ap (λ s. length s.seen) is) in
    let name = ap (λ s. s.name) is ∙ c.requires.seat.named in (
      c.exchange.ensures.0 ∙ (ap (λ s. s.table) is ∙ (c.requires.seat.table ∙ sym (ap (λ s. s.table) cell))),
      search rules,
      rw after (puts g.S.Stands.stands g.S.Stands.name _ _ _ _ v x _ es _ refl (name ∙ ap Some (sym (ap (λ s. s.name) cell))) holds
          (word_more _ _ _ _ _ (entries ∙ long) c.requires.entries)
          (room_more _ _ _ _ _ _ long c.requires.entries c.requires.room)
          (subst (λ s. g.S.Stands.stands x (s.seen ++ made_by s.number es)) (sym is) (rw state c.requires.stands))
          (name ∙ ap Some (sym (ap g.S.Stands.name state ∙ c.requires.name)))),
    )
