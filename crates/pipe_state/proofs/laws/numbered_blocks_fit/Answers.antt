use Rattle.std.proofs.Common.{sym, subst}
use Rattle.seg_block.specs.Numbered.{AreDistinct}
use Rattle.pipe_state.proofs.BlockLemmas.{ids_of_names, numbered_sized}
use Rattle.pipe_state.proofs.laws.numbered_blocks_fit.Goals as goal

pub returns-clause-own : goal.returns-clause-own
returns-clause-own c first size blocks all = subst AreDistinct (sym (ids_of_names blocks)) (c.ids_differ.ensures first size blocks all)

pub returns-clause-sized : goal.returns-clause-sized
returns-clause-sized c = numbered_sized
