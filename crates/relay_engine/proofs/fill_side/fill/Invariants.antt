use Rattle.relay_engine.specs.SoFar.{IsFilling}
use Rattle.relay_engine.proofs.fill_side.fill.Given as goal

-- more may be taken, or the completion is owed, and so far this was taken
abbrev pub invariant-loop : goal.invariant-loop
invariant-loop g l = IsFilling l.pipe l.fn.filler.limit (g.S.Source.state l.initial.source) l.filler (g.S.Source.state l.source)
