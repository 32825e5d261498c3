-- The marks that stood for the history, moved on, stand for it with the call.
use Rattle.std.proofs.Common.{refl}
use Rattle.pipe_core.proofs.StandingLemmas.{advances}
use Rattle.pipe_core.proofs.control.Control.advance.Goals as goal

pub invariant_of-self : goal.invariant_of-self
invariant_of-self c =
    let may = rw (← c.self.view_is) at c.requires in
    (advances c.self.inside.marks c.args.c c.args.e _ _ _ may c.max-examined.ensures c.paused_still.ensures _ refl c.woken_since.ensures).0 c.self.invariant

pub returns : goal.returns
returns c =
    let may = rw (← c.self.view_is) at c.requires in
    rw (← c.self.view_is) (advances c.self.inside.marks c.args.c c.args.e _ _ _ may c.max-examined.ensures c.paused_still.ensures _ refl c.woken_since.ensures).1
