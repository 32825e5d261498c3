-- A commit of what is drafted.
use Rattle.std.proofs.Common.{ap, ◌∙◌}
use Rattle.pipe_core.specs.declared.reply.FlushReply.TheVariants as flush
use Rattle.relay_engine.proofs.FillingLemmas.{committed, kept, small}
use Rattle.relay_engine.proofs.filling.Filling.settle.Goals as goal

pub commit-requires-clause-total : goal.commit-requires-clause-total
commit-requires-clause-total g c = small _ _ c.args.self.now c.args.end.now (rw (← c.self.view_is) c.self.invariant.0) (rw (← c.self.view_is) c.self.invariant.1) c.requires.holds

pub returns-in-Err-clause-settles : goal.returns-in-Err-clause-settles
returns-in-Err-clause-settles g c h bytes t =
    (c.in-Err.ensures.refused, kept _ _ _ g.met.P.FillPipe.others_write_nothing _ _ _ c.in-Err.ensures.kept c.in-Err.ensures.heard h bytes t)

pub returns-in-Ok-Pending-clause-settles : goal.returns-in-Ok-Pending-clause-settles
returns-in-Ok-Pending-clause-settles g c h bytes t =
    committed g.P.FillPipe.at g.P.FillPipe.others g.P.FillPipe.writer g.met.P.FillPipe.others_write_nothing _ _ _ _ c.args.self.now _ c.args.end.now c.commit.new.self c.self.view_is c.in-Ok-Pending.field-0-is c.in-Ok-Pending.ensures.draft c.in-Ok-Pending.ensures.tally c.in-Ok-Pending.ensures.at h bytes t

pub returns-in-Ok-Ready-default-Some-clause-settles : goal.returns-in-Ok-Ready-default-Some-clause-settles
returns-in-Ok-Ready-default-Some-clause-settles g c h bytes t =
    (_, committed g.P.FillPipe.at g.P.FillPipe.others g.P.FillPipe.writer g.met.P.FillPipe.others_write_nothing _ _ _ _ c.args.self.now _ c.args.end.now c.commit.new.self c.self.view_is (c.in-Ok-Ready-default-Some.field-0-is ∙ ap (λ o. flush.Ready c.in-Ok-Ready-default-Some.field-0-0 o) c.in-Ok-Ready-default-Some.field-0-1-is) c.in-Ok-Ready-default-Some.ensures.draft c.in-Ok-Ready-default-Some.ensures.tally c.in-Ok-Ready-default-Some.ensures.at h bytes t)

pub returns-in-Ok-Ready-default-None-clause-settles : goal.returns-in-Ok-Ready-default-None-clause-settles
returns-in-Ok-Ready-default-None-clause-settles g c h bytes t =
    (ap (λ f. f.drafted) c.self.view_is ∙ t.drafted, (_, committed g.P.FillPipe.at g.P.FillPipe.others g.P.FillPipe.writer g.met.P.FillPipe.others_write_nothing _ _ _ _ c.args.self.now _ c.args.end.now c.commit.new.self c.self.view_is (c.in-Ok-Ready-default-None.field-0-is ∙ ap (λ o. flush.Ready c.in-Ok-Ready-default-None.field-0-0 o) c.in-Ok-Ready-default-None.field-0-1-is) c.in-Ok-Ready-default-None.ensures.draft c.in-Ok-Ready-default-None.ensures.tally c.in-Ok-Ready-default-None.ensures.at h bytes t))
