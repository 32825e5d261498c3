use Rattle.std.proofs.Common.{sym, ap, ◌∙◌, ◌++◌, ◌∷◌, [], Some}
use Rattle.turn_cell.proofs.MeetingLemmas.{opens}
use Rattle.turn_cell.proofs.cell.TurnCell.make.Goals as goal

pub new-requires : goal.new-requires
new-requires g c =
    let items = c.push_reserved.ensures.items ∙ ap (λ l. l ++ Some c.args.state ∷ []) c.in-Ok-with_capacity.ensures.items in
    rw items (opens g.S.Stands.stands g.S.Stands.name _ _ c.args.state (ap g.S.Stands.name (sym c.of.ensures)) c.requires.state c.requires.seats.0)
