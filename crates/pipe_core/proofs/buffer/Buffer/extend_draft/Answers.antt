-- The draft ends further on.
use Rattle.pipe_core.proofs.BufferLemmas.{extended}
use Rattle.pipe_core.proofs.buffer.Buffer.extend_draft.Goals as goal

pub returns : goal.returns
returns c =
    let within = rw (← c.self.view_is) at c.requires in
    let b = c.self.inside in
    rw (← c.self.view_is) (extended b.room.items b.capacity b.start b.committed b.end c.args.n c.self.invariant within)
