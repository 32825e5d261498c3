-- What is free is what the capacity has beside what is held.
use Rattle.std.proofs.Common.{arith}
use Rattle.pipe_core.proofs.PipeLemmas.{total_within}
use Rattle.stream_ends.proofs.ReaderLemmas.{why_due, why_full}
use Rattle.stream_ends.proofs.reader.StreamReader.room_to_fill.Goals as goal

pub returns-then-room-eq0-clause-why : goal.returns-then-room-eq0-clause-why
returns-then-room-eq0-clause-why g c first n h = rw (← c.self.view_is)
    (why_full first _ n h c.committed-total.result c.room-room.result c.held_len-held.result c.self.invariant.1 c.committed-total.ensures c.if-total-eq-MOST.false c.room-room.ensures c.if-room-eq0.true
    c.held_len-held.ensures)

pub overflow_sub-total : goal.overflow_sub-total
overflow_sub-total g c =
    let stood = c.plain_pipe_has_a_history.ensures in
    omega (arith, c.committed-total.ensures, total_within c.self.inside.pipe stood.0 stood.1)

pub returns-clause-some : goal.returns-clause-some
returns-clause-some g c =
    let stood = c.plain_pipe_has_a_history.ensures in
    omega (arith, c.min.ensures, c.if-room-eq0.false, c.if-total-eq-MOST.false, c.committed-total.ensures, total_within c.self.inside.pipe stood.0 stood.1)

pub returns-clause-below : goal.returns-clause-below
returns-clause-below g c =
    let stood = c.plain_pipe_has_a_history.ensures in
    rw (← c.self.view_is) (omega (arith, c.min.ensures, c.committed-total.ensures, total_within c.self.inside.pipe stood.0 stood.1))

pub returns-clause-why : goal.returns-clause-why
returns-clause-why g c first n h = rw (← c.self.view_is)
    (why_due first _ n h c.committed-total.result c.room-room.result c.self.invariant.1 c.committed-total.ensures c.if-total-eq-MOST.false c.room-room.ensures c.if-room-eq0.false)
