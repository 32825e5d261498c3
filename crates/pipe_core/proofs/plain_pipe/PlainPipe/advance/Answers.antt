-- What is lent is held, and an advance gives up its front.
use Rattle.pipe_core.proofs.PipeLemmas.{may_release}
use Rattle.pipe_core.proofs.plain_pipe.PlainPipe.advance.Goals as goal

pub release-requires : goal.release-requires
release-requires c =
    let p = c.self.inside in
    may_release (record { control = p.control; bytes = p.buffer }) c.self.invariant.0 c.args.c c.args.e (rw (← c.self.view_is) at c.requires) c.self.invariant.1
