-- Where a lend stands there is a reader.
use Rattle.std.proofs.Common.{sym, subst}
use Rattle.std.specs.Prelude.{IsSome}
use Rattle.pipe_shared.specs.Local.{Local}
use Rattle.pipe_shared.proofs.LocalLemmas.{lending_attends, may_advance_lent, reader_is_there}
use Rattle.pipe_shared.proofs.local.LocalPipe.advance.Goals as goal

pub unreachable-requires : goal.unreachable-requires
unreachable-requires c =
    let l = c.self.invariant in
    let some = subst (λ (p : Local). IsSome p.pipe.control.lent) (sym c.self.view_is) (may_advance_lent _ c.args.c c.args.e c.requires) in
    reader_is_there _ _ _ (lending_attends c.self.inside.state l.history.h l.history.holds some) c.in-None.is l.reader
