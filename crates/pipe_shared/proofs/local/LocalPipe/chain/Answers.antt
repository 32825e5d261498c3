-- The lend lies in the reader's chain.
use Rattle.std.proofs.Common.{Bool, ap, subst, ◌∙◌}
use Rattle.pipe_state.specs.Held.{HoldsRuns}
use Rattle.pipe_state.specs.Sides.{reader_has}
use Rattle.pipe_turns.specs.Lends.{runs_in}
use Rattle.pipe_shared.specs.Local.{Local}
use Rattle.pipe_shared.proofs.LocalLemmas.{lending_attends, lends_in, reader_is_there, reads_by}
use Rattle.pipe_shared.proofs.local.LocalPipe.chain.Goals as goal

pub unreachable-requires : goal.unreachable-requires
unreachable-requires c =
    let l = c.self.invariant in
    let p = c.self.inside in
    reader_is_there _ _ _ (lending_attends p.state l.history.h l.history.holds (lends_in p.state c.args.self.now (ap (λ (x : Local). x.pipe) c.self.view_is) c.requires)) c.in-None.is l.reader

pub returns-clause-runs : goal.returns-clause-runs
returns-clause-runs c =
    let p = c.self.inside in
    let l = reads_by p.state p.reading c.in-Some.reading c.in-Some.is c.self.invariant.history in (
      l.h,
      subst (λ (x : Local). HoldsRuns x.pipe l.h) c.self.view_is l.holds,
      l.lent ∙ ap (λ (b : Bool). runs_in b (reader_has c.in-Some.reading.chain)) (lends_in p.state c.args.self.now (ap (λ (x : Local). x.pipe) c.self.view_is) c.requires),
    )
