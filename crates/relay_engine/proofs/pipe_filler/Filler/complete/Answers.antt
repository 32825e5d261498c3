-- An attempt at the completion.
use Rattle.std.proofs.Common.{◌∙◌, ap}
use Rattle.relay_engine.proofs.PipeFillerLemmas.{closed_with, may_close}
use Rattle.relay_engine.proofs.pipe_filler.Filler.complete.Goals as goal

pub replace_with-closed-requires : goal.replace_with-closed-requires
replace_with-closed-requires c =
    (ap (λ s. s.done) c.self.view_is ∙ c.requires.going, (rw (← c.self.view_is) at c.requires.pipe, may_close _ _ _ _ (ap (λ s. s.ending) c.self.view_is ∙ c.requires.ended) c.self.invariant))

pub invariant_of-self : goal.invariant_of-self
invariant_of-self c =
    (closed_with _ _ c.replace_with-closed.new.dest _ c.args.reason _ _ c.code_of.ensures (ap (λ s. s.ending) c.self.view_is ∙ c.requires.ended) c.self.invariant c.replace_with-closed.ensures.1).filler

pub returns-clause-completes : goal.returns-clause-completes
returns-clause-completes c =
    let on = closed_with _ _ c.replace_with-closed.new.dest _ c.args.reason _ _ c.code_of.ensures (ap (λ s. s.ending) c.self.view_is ∙ c.requires.ended) c.self.invariant c.replace_with-closed.ensures.1 in
    rw (c.step_of.ensures, ← c.self.view_is) on.completes

pub returns-clause-counted : goal.returns-clause-counted
returns-clause-counted c = (invariant_of-self c).taken.counted

pub returns-clause-draft : goal.returns-clause-draft
returns-clause-draft c =
    (closed_with _ _ c.replace_with-closed.new.dest _ c.args.reason _ _ c.code_of.ensures (ap (λ s. s.ending) c.self.view_is ∙ c.requires.ended) c.self.invariant c.replace_with-closed.ensures.1).settled
