-- What the sink took has left the draft.
use Rattle.stream_ends.proofs.WriterLemmas.{written_front, written_whole}
use Rattle.stream_ends.proofs.writer.StreamWriter.flush.Goals as goal

pub returns-in-Err-clause-written : goal.returns-in-Err-clause-written
returns-in-Err-clause-written g c first bytes h = written_front first _ _ bytes _ h c.in-Err.ensures.writes.0 c.in-Err.ensures.writes.1

pub returns-in-Ok-clause-written : goal.returns-in-Ok-clause-written
returns-in-Ok-clause-written g c first bytes h =
    let writes = rw (← c.self.view_is) at c.in-Ok.ensures.writes in
    written_whole first c.args.self.now _ bytes h writes.0 writes.1
