-- A commit that is owed, and then the rest of the step.
use Rattle.std.proofs.Common.{refl, sym, ap, ◌∙◌, inl, inr}
use Rattle.pipe_turns.specs.Name.{Name}
use Rattle.relay_engine.proofs.FillingLemmas.{took_behind, went_through}
use Rattle.relay_engine.proofs.filling.Filling.step.Goals as goal

pub take-requires-then-moves_nothing-clause-holds : goal.take-requires-then-moves_nothing-clause-holds
take-requires-then-moves_nothing-clause-holds g c =
    let t = c.requires.holds in
    let w = went_through _ _ _ g.P.FillPipe.refuses _ (g.P.FillPipe.is_full c.args.pipe.now) _ _ _ _ (sym c.moves_nothing.ensures ∙ c.if-moves_nothing.true) t.0 t.1 (c.in-Ok.ensures.settles t.0 t.1 t.2) in
    (_, _, w.commits.holds)

pub returns-then-moves_nothing-clause-fills : goal.returns-then-moves_nothing-clause-fills
returns-then-moves_nothing-clause-fills g c h bytes t =
    let w = went_through _ _ _ g.P.FillPipe.refuses _ (g.P.FillPipe.is_full c.args.pipe.now) _ _ _ _ (sym c.moves_nothing.ensures ∙ c.if-moves_nothing.true) h bytes (c.in-Ok.ensures.settles h bytes t) in
    took_behind _ _ _ _ _ _ _ c.settle.new.self _ _ c.settle.new.end _ _ _ _ _ (rw (← c.self.view_is) c.if-not-self.false) (ap (λ (m : Name). m.options) c.in-Ok.ensures.made) c.in-Ok.ensures.limit h bytes w (c.take-then-moves_nothing.ensures.takes _ bytes w.commits.holds)

pub returns-in-Err-clause-fills : goal.returns-in-Err-clause-fills
returns-in-Err-clause-fills g c h bytes t = inr (inl (record { owed = rw (← c.self.view_is) c.if-not-self.false; unread = refl; told = refl; settles = c.in-Err.ensures.settles h bytes t }))

pub returns-else-moves_nothing-clause-fills : goal.returns-else-moves_nothing-clause-fills
returns-else-moves_nothing-clause-fills g c h bytes t =
    inr (inl (record { owed = rw (← c.self.view_is) c.if-not-self.false; unread = refl; told = sym c.moves_nothing.ensures ∙ c.if-moves_nothing.false; settles = c.in-Ok.ensures.settles h bytes t }))
