use Rattle.turn_cell.proofs.NumberLemmas.{two_have_met}
use Rattle.pipe_rows.proofs.turns.close_two.Goals as goal

pub close-requires-clause-all : goal.close-requires-clause-all
close-requires-clause-all c = two_have_met c.args.cell c.args.zero c.args.one c.join.new.into c.requires.count c.requires.zero.1 c.requires.one.1 c.join.ensures.joined
