use Rattle.std.proofs.Common.{refl, ap, ◌∙◌}
use Rattle.relay_engine.proofs.PipeDrainerLemmas.{ended, idled, moved, still_drainer, still_refused, was_refused}
use Rattle.relay_engine.proofs.pipe_drainer.Drainer.go_on.Goals as goal

pub returns-in-Ok-Moved-clause-step : goal.returns-in-Ok-Moved-clause-step
returns-in-Ok-Moved-clause-step g c =
    let going = ap (λ d. d.ending) c.self.view_is ∙ c.requires.ending in
    rw (← c.self.view_is) (moved _ _ c.args.end c.step.new.end _ _ c.in-Ok-Moved.frames refl going refl going (rw c.in-Ok-Moved.field-0-is at c.in-Ok-Moved.ensures.step))

pub returns-in-Ok-Idle-clause-step : goal.returns-in-Ok-Idle-clause-step
returns-in-Ok-Idle-clause-step g c =
    let going = ap (λ d. d.ending) c.self.view_is ∙ c.requires.ending in
    rw (← c.self.view_is) (idled _ _ c.args.end c.step.new.end _ _ c.in-Ok-Idle.examined refl going refl going (rw c.in-Ok-Idle.field-0-is at c.in-Ok-Idle.ensures.step))

pub returns-in-Ok-Ended-clause-step : goal.returns-in-Ok-Ended-clause-step
returns-in-Ok-Ended-clause-step g c =
    let going = ap (λ d. d.ending) c.self.view_is ∙ c.requires.ending in
    rw (← c.self.view_is) (ended _ c.complete.new.self c.step.new.self c.args.end c.step.new.end _ _ c.in-Ok-Ended.ending c.complete.result refl going (rw c.in-Ok-Ended.field-0-is at c.in-Ok-Ended.ensures.step) c.complete.ensures.completes)

pub returns-in-Err-clause-step : goal.returns-in-Err-clause-step
returns-in-Err-clause-step g c =
    let going = ap (λ d. d.ending) c.self.view_is ∙ c.requires.ending in
    rw (c.refused.ensures, ← c.self.view_is) (was_refused _ _ c.args.end c.step.new.end _ _ c.in-Err.fault refl going refl going c.in-Err.ensures.step)

pub invariant_of-self : goal.invariant_of-self
invariant_of-self g c reader is =
    let going = ap (λ d. d.ending) c.self.view_is ∙ c.requires.ending in
    still_drainer _ _ _ _ _ _ (rw (← c.self.view_is) at c.requires.going.1) (moved _ _ c.args.end c.step.new.end _ _ c.in-Ok-Moved.frames refl going refl going (rw c.in-Ok-Moved.field-0-is at c.in-Ok-Moved.ensures.step)) refl

pub invariant_of-self-in-Err : goal.invariant_of-self-in-Err
invariant_of-self-in-Err g c reader is =
    let going = ap (λ d. d.ending) c.self.view_is ∙ c.requires.ending in
    still_refused _ _ _ _ _ c.in-Err.fault (rw (← c.self.view_is) at c.requires.going.1) (was_refused _ _ c.args.end c.step.new.end _ _ c.in-Err.fault refl going refl going c.in-Err.ensures.step)
