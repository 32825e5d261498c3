-- The marks that stood for the history, with what is lent and what is awaited, stand for it with the read.
use Rattle.std.proofs.Common.{refl}
use Rattle.pipe_core.proofs.StandingLemmas.{reads}
use Rattle.pipe_core.proofs.control.Control.read_at_least.Goals as goal

pub invariant_of-self : goal.invariant_of-self
invariant_of-self c =
    let attended = rw (← c.self.view_is) at c.requires.attended in
    let no_lend = rw (← c.self.view_is) at c.requires.no_lend in
    (reads c.self.inside.marks c.args.n _ _ _ _ _ _ c.requires.bound attended no_lend c.reads_now-ready.ensures c.lent_where.ensures c.awaited_where.ensures c.paused_still.ensures c.read_reply-reply.ensures _ refl c.woken_since.ensures).0 c.self.invariant

pub returns : goal.returns
returns c =
    let attended = rw (← c.self.view_is) at c.requires.attended in
    let no_lend = rw (← c.self.view_is) at c.requires.no_lend in
    rw (← c.self.view_is) (reads c.self.inside.marks c.args.n _ _ _ _ _ _ c.requires.bound attended no_lend c.reads_now-ready.ensures c.lent_where.ensures c.awaited_where.ensures c.paused_still.ensures c.read_reply-reply.ensures _ refl c.woken_since.ensures).1
