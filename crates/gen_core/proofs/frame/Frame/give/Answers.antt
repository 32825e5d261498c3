-- What is left is the slice behind what was given.
use Rattle.std.proofs.Common.{arith}
use Rattle.gen_core.proofs.GenLemmas.{slice_back, slice_len}
use Rattle.gen_core.proofs.frame.Frame.give.Goals as goal

pub returns-clause-left : goal.returns-clause-left
returns-clause-left c =
    let f = c.self.inside in
    let len = rw (← c.self.view_is) at c.len.ensures in
    rw (← c.self.view_is) (slice_back f.room f.from c.min-count.result f.to (omega (arith, c.self.invariant.0, c.min-count.ensures, len, slice_len f.room f.from f.to)))
