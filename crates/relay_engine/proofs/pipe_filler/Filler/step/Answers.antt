-- The completion stands behind what was taken.
use Rattle.relay_engine.proofs.PipeFillerLemmas.{steps_on}
use Rattle.relay_engine.proofs.SpendingLemmas.{filler_spends}
use Rattle.relay_engine.proofs.pipe_filler.Filler.step.Goals as goal

pub returns-in-Err-clause-steps : goal.returns-in-Err-clause-steps
returns-in-Err-clause-steps g c =
    steps_on _ c.args.self.now c.take.new.self _ _ _ c.in-Err.reason _ c.args.self.now.ending c.in-Err.ensures.takes.0 c.complete.ensures.completes c.complete.ensures.ending c.complete.ensures.filling

pub returns-in-Err-clause-spent : goal.returns-in-Err-clause-spent
returns-in-Err-clause-spent g c =
    filler_spends c.args.pipe.now c.args.self.now.ending c.args.self.now c.complete.new.self (g.S.Source.state c.args.source.now) (g.S.Source.state c.take.new.source) c.complete.result
    (steps_on _ c.args.self.now c.take.new.self _ _ _ c.in-Err.reason _ c.args.self.now.ending c.in-Err.ensures.takes.0 c.complete.ensures.completes c.complete.ensures.ending c.complete.ensures.filling)

pub returns-in-Ok-clause-spent : goal.returns-in-Ok-clause-spent
returns-in-Ok-clause-spent g c =
    filler_spends c.args.pipe.now c.args.self.now.ending c.args.self.now c.take.new.self (g.S.Source.state c.args.source.now) (g.S.Source.state c.take.new.source) c.in-Ok.step c.in-Ok.ensures.takes.0
