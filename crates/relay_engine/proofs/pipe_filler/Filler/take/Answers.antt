-- A step of the part that knows no pipe, where the taking goes on.
use Rattle.relay_engine.proofs.PipeFillerLemmas.{ended_filler}
use Rattle.relay_engine.proofs.pipe_filler.Filler.take.Goals as goal

pub invariant_of-self : goal.invariant_of-self
invariant_of-self g c =
    ended_filler c.args.pipe.now c.args.self.now c.fill.new.self _ _ c.self-2.inside.filling c.self-2.inside.end c.self-2.inside.ending c.in-Ok-Ended.reason c.self-2.view_is c.self-2.invariant c.in-Ok-Ended.ensures.draft (rw c.in-Ok-Ended.field-0-is at c.in-Ok-Ended.ensures.fills)
