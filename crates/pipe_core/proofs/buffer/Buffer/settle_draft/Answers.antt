-- The draft ends where it began, or the held bytes end where it ended.
use Rattle.pipe_core.proofs.BufferLemmas.{dropped_draft, kept_draft}
use Rattle.pipe_core.proofs.buffer.Buffer.settle_draft.Goals as goal

pub returns-then-dropped : goal.returns-then-dropped
returns-then-dropped c =
    let b = c.self.inside in
    rw (← c.self.view_is, c.if-dropped.true) (dropped_draft b.room.items b.capacity b.start b.committed b.end c.self.invariant)

pub returns-else-dropped : goal.returns-else-dropped
returns-else-dropped c =
    let b = c.self.inside in
    rw (← c.self.view_is, c.if-dropped.false) (kept_draft b.room.items b.capacity b.start b.committed b.end c.self.invariant)
