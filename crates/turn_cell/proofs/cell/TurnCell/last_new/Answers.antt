use Rattle.turn_cell.proofs.SeatLemmas.{popped}
use Rattle.turn_cell.proofs.cell.TurnCell.last_new.Goals as goal

pub returns-clause-rest : goal.returns-clause-rest
returns-clause-rest g c = (popped c.args.self.now _ _ c.pop.result c.requires c.pop.ensures.items).0

pub returns-clause-seat : goal.returns-clause-seat
returns-clause-seat g c = (popped c.args.self.now _ _ c.pop.result c.requires c.pop.ensures.items).1
