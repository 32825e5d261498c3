-- Nothing is left in the draft.
use Rattle.stream_ends.proofs.WriterLemmas.{all_written}
use Rattle.stream_ends.proofs.writer.StreamWriter.complete.Goals as goal

pub returns-in-Ok-clause-written : goal.returns-in-Ok-clause-written
returns-in-Ok-clause-written g c first bytes h =
    let all = all_written first c.flush.new.self bytes (c.in-Ok.ensures.written first bytes h) c.in-Ok.ensures.flushes.2 in
    rw (← c.end.view_is) at all
