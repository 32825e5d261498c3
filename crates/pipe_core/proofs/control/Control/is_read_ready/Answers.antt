-- The marks that stand for a history tell what it tells.
use Rattle.pipe_core.proofs.StandingLemmas.{read_ready, unended}
use Rattle.pipe_core.proofs.control.Control.is_read_ready.Goals as goal

pub returns-clause-told : goal.returns-clause-told
returns-clause-told c h s = rw (c.reads_now.ensures) (read_ready c.args.n c.self.inside.marks h (rw (← c.self.view_is) at s))

pub returns-clause-unended : goal.returns-clause-unended
returns-clause-unended c unready = rw (← c.self.view_is) (unended c.args.n c.self.inside.marks (rw (c.reads_now.ensures) at unready))
