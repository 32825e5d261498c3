use Rattle.std.proofs.Common.{ap, sym, ◌∙◌}
use Rattle.relay_engine.proofs.ReadOnLemmas.{owed_step}
use Rattle.relay_engine.proofs.draining.Draining.step.Goals as goal

pub returns-in-Some-clause-step : goal.returns-in-Some-clause-step
returns-in-Some-clause-step g c =
    let a = c.advance.ensures in
    owed_step _ _ _ _ _ _ c.args.self.now c.advance.new.self c.args.end.now c.advance.new.end _ c.in-Some.owed c.advance.result (sym (ap (λ d. d.owed) c.self.view_is) ∙ c.in-Some.is) a.advanced a.drained a.aside a.tally a.failed a.lends a.within
