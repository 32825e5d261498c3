use Rattle.std.proofs.Common.{sym, ◌∙◌}
use Rattle.relay_engine.proofs.PipeDrainerLemmas.{completed}
use Rattle.relay_engine.proofs.SpendingLemmas.{drainer_spends}
use Rattle.relay_engine.proofs.pipe_drainer.Drainer.step.Goals as goal

pub returns-in-Some-ending-clause-step : goal.returns-in-Some-ending-clause-step
returns-in-Some-ending-clause-step g c =
    rw (← c.self.view_is) (completed _ c.complete.new.self c.in-Some.end _ c.in-Some-ending.ending c.complete.result (sym c.take.ensures.value ∙ c.in-Some.is) c.in-Some-ending.is c.complete.ensures.completes)

pub returns-in-Some-ending-clause-spent : goal.returns-in-Some-ending-clause-spent
returns-in-Some-ending-clause-spent g c =
    let ended = sym c.take.ensures.value ∙ c.in-Some.is in
    let own = c.self.invariant c.in-Some.end ended in
    rw (← c.self.view_is)
    (drainer_spends _ c.complete.new.self (g.K.Sink.state c.args.sink.now) _ c.complete.result own.0 own.1
    (completed _ c.complete.new.self c.in-Some.end (g.K.Sink.state c.args.sink.now) c.in-Some-ending.ending c.complete.result ended c.in-Some-ending.is c.complete.ensures.completes))

pub returns-in-None-clause-spent : goal.returns-in-None-clause-spent
returns-in-None-clause-spent g c =
    let ended = sym c.take.ensures.value ∙ c.in-Some.is in
    let own = c.self.invariant c.in-Some.end ended in
    rw (← c.self.view_is) (drainer_spends _ c.go_on.new.self (g.K.Sink.state c.args.sink.now) (g.K.Sink.state c.go_on.new.sink) c.go_on.result own.0 own.1 (rw ended c.go_on.ensures.step))
