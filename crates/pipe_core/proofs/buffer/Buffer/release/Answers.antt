-- The held bytes begin further on, or at the front.
use Rattle.pipe_core.proofs.BufferLemmas.{released, moved_held, moved_draft}
use Rattle.pipe_core.proofs.buffer.Buffer.release.Goals as goal

pub returns-then-start-self-2-clause-held : goal.returns-then-start-self-2-clause-held
returns-then-start-self-2-clause-held c =
    let b = c.self.inside in
    let within = rw (← c.self.view_is) at c.requires in
    rw (← c.self.view_is, c.copy_within.ensures.items) (moved_held b.room.items b.capacity b.start b.committed b.end c.args.n c.self.invariant within)

pub returns-then-start-self-2-clause-draft : goal.returns-then-start-self-2-clause-draft
returns-then-start-self-2-clause-draft c =
    let b = c.self.inside in
    let within = rw (← c.self.view_is) at c.requires in
    rw (← c.self.view_is, c.copy_within.ensures.items) (moved_draft b.room.items b.capacity b.start b.committed b.end c.args.n c.self.invariant within)

pub returns-else-start-self-2-clause-held : goal.returns-else-start-self-2-clause-held
returns-else-start-self-2-clause-held c =
    let b = c.self.inside in
    let within = rw (← c.self.view_is) at c.requires in
    rw (← c.self.view_is) (released b.room.items b.capacity b.start b.committed b.end c.args.n c.self.invariant within)
