-- Both ends have completed in the history in which they meet.
use Rattle.std.proofs.Common.{sym, subst}
use Rattle.std.specs.Prelude.{IsSome}
use Rattle.pipe_shared.proofs.EndLemmas.{ended_later, gone_later}
use Rattle.pipe_shared.proofs.pipe.Pipe.close.Goals as goal

pub close-committed-requires-clause-writer : goal.close-committed-requires-clause-writer
close-committed-requires-clause-writer c =
    let closed = c.close_three-pipe.ensures.closed in
    subst IsSome (sym closed.stand.stands.runs.marks.ended) (ended_later _ closed.history closed.first_agrees.begins c.writer.invariant.ended)

pub close-committed-requires-clause-reader : goal.close-committed-requires-clause-reader
close-committed-requires-clause-reader c =
    let closed = c.close_three-pipe.ensures.closed in
    subst IsSome (sym closed.stand.stands.runs.marks.gone) (gone_later _ closed.history closed.second_agrees.begins c.reader.invariant.gone)
