-- The end that comes back has its lend, and one that has completed stays so.
use Rattle.std.proofs.Common.{sym, subst}
use Rattle.pipe_state.specs.declared.reading.Reading.{Reading}
use Rattle.pipe_shared.specs.Ends.{IsReader}
use Rattle.pipe_shared.proofs.EndLemmas.{reader_refused}
use Rattle.pipe_shared.proofs.pipe.Pipe.try_complete_reader.Goals as goal

pub invariant_of-result-in-Err : goal.invariant_of-result-in-Err
invariant_of-result-in-Err c =
    subst (λ (part : Reading). IsReader c.end_reader.new.seat part c.r.inside.lending) (sym c.in-Err.ensures.back)
    (reader_refused c.in-Err.fault c.r.inside.seat c.end_reader.new.seat c.r.inside.part c.r.inside.lending c.r.invariant c.in-Err.ensures.refused)
