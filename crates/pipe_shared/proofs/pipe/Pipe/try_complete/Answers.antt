-- The end that comes back has its draft, and one that has completed stays so.
use Rattle.std.proofs.Common.{sym, subst}
use Rattle.pipe_shared.specs.Ends.{IsWriter}
use Rattle.pipe_shared.proofs.EndLemmas.{writer_refused}
use Rattle.pipe_shared.proofs.pipe.Pipe.try_complete.Goals as goal

pub invariant_of-result-in-Err : goal.invariant_of-result-in-Err
invariant_of-result-in-Err c =
    subst (IsWriter c.complete.new.seat) (sym c.in-Err.ensures.back) (writer_refused _ c.in-Err.fault c.w.inside.seat c.complete.new.seat c.w.inside.part c.w.invariant c.in-Err.ensures.refused)
