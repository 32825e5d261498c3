-- The lend lies in the reader's chain.
use Rattle.std.proofs.Common.{Some, ap, sym, subst, ◌∙◌, length}
use Rattle.pipe_state.specs.Held.{HoldsRuns}
use Rattle.pipe_shared.specs.Local.{Local}
use Rattle.pipe_shared.proofs.LocalLemmas.{lending_attends, lends_in, lent_fits, lent_for_each, lent_length, reader_is_there, reads_by}
use Rattle.pipe_shared.proofs.local.LocalPipe.lent.Goals as goal

pub whole-requires : goal.whole-requires
whole-requires c =
    let p = c.self.inside in
    lent_fits p.state c.in-Some.reading (reads_by p.state p.reading c.in-Some.reading c.in-Some.is c.self.invariant.history) (lends_in p.state c.args.self.now (ap (λ (x : Local). x.pipe) c.self.view_is) c.requires)

pub unreachable-requires : goal.unreachable-requires
unreachable-requires c =
    let l = c.self.invariant in
    let p = c.self.inside in
    reader_is_there _ _ _ (lending_attends p.state l.history.h l.history.holds (lends_in p.state c.args.self.now (ap (λ (x : Local). x.pipe) c.self.view_is) c.requires)) c.in-None.is l.reader

pub returns-clause-bytes : goal.returns-clause-bytes
returns-clause-bytes c h holds =
    let p = c.self.inside in
    lent_for_each p.state c.in-Some.reading (reads_by p.state p.reading c.in-Some.reading c.in-Some.is c.self.invariant.history) (lends_in p.state c.args.self.now (ap (λ (x : Local). x.pipe) c.self.view_is) c.requires) h
    (subst (λ (x : Local). HoldsRuns x.pipe h) (sym c.self.view_is) holds)
    ∙ ap Some (sym c.whole.ensures.bytes)

pub returns-clause-len : goal.returns-clause-len
returns-clause-len c =
    let p = c.self.inside in
    ap (λ (x : Local). x.pipe.control.lent) (sym c.self.view_is)
    ∙ lent_length p.state c.in-Some.reading (reads_by p.state p.reading c.in-Some.reading c.in-Some.is c.self.invariant.history) (lends_in p.state c.args.self.now (ap (λ (x : Local). x.pipe) c.self.view_is) c.requires)
    ∙ ap (λ xs. Some (length xs)) (sym c.whole.ensures.bytes)
