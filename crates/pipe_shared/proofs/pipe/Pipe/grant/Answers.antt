-- The writer fills another segment, or the same.
use Rattle.pipe_shared.proofs.EndLemmas.{writer_after_room}
use Rattle.pipe_shared.proofs.pipe.Pipe.grant.Goals as goal

pub invariant_of-w : goal.invariant_of-w
invariant_of-w c = writer_after_room _ c.args.hint c.w.inside.seat c.room.new.seat c.w.inside.part c.room.new.part c.room.result c.w.invariant c.room.ensures.found c.room.ensures.busy
