use Rattle.std.proofs.Common.{sym, ◌∙◌, ap, ◌≡◌, is_some, unwrap_or, subst}
use Rattle.std.proofs.lemmas.Bool.{false≢true}
use mathlib.Core.Option as plain
use Rattle.turn_cell.specs.Seat.{Closes}
use Rattle.turn_cell.proofs.SeatLemmas.{closed_by}
use Rattle.turn_cell.proofs.cell.TurnCell.close.Goals as goal

pub unreachable-requires : goal.unreachable-requires
unreachable-requires g c =
    let t = closed_by g.S.Stands.stands g.S.Stands.name _ _ _ _ _ _ _ _ _ _ (sym c.seat.view_is) (sym c.self.view_is) c.requires.seat.0 c.requires.seat.1 c.requires.all c.close_with-closed.ensures.values.2 in
    let same = plain.some-injective _ _ (sym c.take-home.ensures.value ∙ t.1) in
    false≢true (ap is_some (sym c.in-None.is ∙ same))

pub returns-clause-closed : goal.returns-clause-closed
returns-clause-closed g c =
    let t = closed_by g.S.Stands.stands g.S.Stands.name _ _ _ _ _ _ _ _ _ _ (sym c.seat.view_is) (sym c.self.view_is) c.requires.seat.0 c.requires.seat.1 c.requires.all c.close_with-closed.ensures.values.2 in
    let same = plain.some-injective _ _ (sym c.take-home.ensures.value ∙ t.1) in
    let is : t.0 ≡ c.in-Some.state = ap (λ o. unwrap_or o t.0) (sym same ∙ c.in-Some.is) in
    subst (λ x. Closes g.S.Stands.stands c.args.self c.args.seat x) is t.2

pub returns-clause-name : goal.returns-clause-name
returns-clause-name g c =
    let t = closed_by g.S.Stands.stands g.S.Stands.name _ _ _ _ _ _ _ _ _ _ (sym c.seat.view_is) (sym c.self.view_is) c.requires.seat.0 c.requires.seat.1 c.requires.all c.close_with-closed.ensures.values.2 in
    let same = plain.some-injective _ _ (sym c.take-home.ensures.value ∙ t.1) in
    let is : t.0 ≡ c.in-Some.state = ap (λ o. unwrap_or o t.0) (sym same ∙ c.in-Some.is) in
    ap g.S.Stands.name (sym is) ∙ t.3
