use Rattle.pipe_state.proofs.WritingLemmas.{still_writing}
use Rattle.pipe_state.proofs.writing.Writing.spare_mut.Goals as goal

pub invariant_of-self-lent : goal.invariant_of-self-lent
invariant_of-self-lent c = let w = c.self.inside in still_writing w.left w.current w.drafted w.count w.size w.half.value c.self.invariant
