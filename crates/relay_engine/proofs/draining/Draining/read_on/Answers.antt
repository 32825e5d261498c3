use Rattle.std.proofs.Common.{ap, ◌∙◌, ◌∷◌}
use Rattle.pipe_core.specs.History.{Read}
use Rattle.relay_engine.specs.Ends.{lent_by}
use Rattle.relay_engine.proofs.LendLemmas.{known_lend}
use Rattle.relay_engine.proofs.BehindOthersLemmas.{drained_later}
use Rattle.relay_engine.proofs.ReadOnLemmas.{as_reply, read_broken, read_passed, read_pending, read_refused}
use Rattle.relay_engine.proofs.draining.Draining.read_on.Goals as goal

pub pass_on-requires-clause-known : goal.pass_on-requires-clause-known
pass_on-requires-clause-known g c =
    let own = c.requires.own in
    let r = c.in-Ok-Ready.ensures.at own.0 own.2 in
    (Read 0 ∷ r.found, r.stands, r.legal, known_lend c.args.self.now.drained r.found own.1 r.legal.0 (drained_later g.P.DrainPipe.others g.met.P.DrainPipe.not_ours c.args.self.now.drained own.0 r.found own.1 r.later r.legal.0 own.3))

pub returns-in-Err-clause-step : goal.returns-in-Err-clause-step
returns-in-Err-clause-step g c =
    let e = c.in-Err.ensures in
    read_refused _ _ _ _ _ _ c.args.self.now c.args.end.now c.read.new.self _ c.in-Err.fault c.requires.fresh g.met.P.DrainPipe.not_ours e.heard e.refused e.kept c.requires.no_lend e.aside

pub returns-in-Ok-Pending-clause-step : goal.returns-in-Ok-Pending-clause-step
returns-in-Ok-Pending-clause-step g c =
    let e = c.in-Ok-Pending.ensures in
    read_pending _ _ _ _ _ _ c.args.self.now c.args.end.now c.read.new.self _ c.in-Ok-Pending.examined _ c.requires.fresh g.met.P.DrainPipe.not_ours (λ h is. as_reply _ _ h _ _ c.read.new.self c.in-Ok-Pending.field-0-is (e.at h is)) (e.lent ∙ ap (λ r. lent_by r) c.in-Ok-Pending.field-0-is) e.aside e.tally

pub returns-in-Some-clause-step : goal.returns-in-Some-clause-step
returns-in-Some-clause-step g c =
    let e = c.in-Ok-Ready.ensures in
    let lent = c.pass_on.ensures.lent in
    let a = c.advance.ensures in
    read_passed _ _ _ _ _ _ c.args.self.now c.pass_on.new.self c.advance.new.self c.args.end.now c.read.new.self c.advance.new.end _ _ c.in-Ok-Ready.field-0-0 c.in-Ok-Ready.ended c.in-Ok-Ready.field-0-2 lent.0 c.in-Some.owed c.advance.result
    c.requires.fresh g.met.P.DrainPipe.not_ours (λ h is. as_reply _ _ h _ _ c.read.new.self c.in-Ok-Ready.field-0-is (e.at h is)) lent.1 (rw c.in-Some.is at lent.3) a.advanced a.drained a.failed (a.aside ∙ e.aside) e.tally a.tally a.lends a.within

pub returns-in-None-clause-step : goal.returns-in-None-clause-step
returns-in-None-clause-step g c =
    let e = c.in-Ok-Ready.ensures in
    let lent = c.pass_on.ensures.lent in
    read_broken _ _ _ _ _ _ c.args.self.now c.pass_on.new.self c.args.end.now c.read.new.self _ _ c.in-Ok-Ready.field-0-0 c.in-Ok-Ready.ended c.in-Ok-Ready.field-0-2 lent.0 c.requires.fresh c.pass_on.ensures.owed g.met.P.DrainPipe.not_ours (λ h is. as_reply _ _ h _ _ c.read.new.self c.in-Ok-Ready.field-0-is (e.at h is)) lent.1 (rw c.in-None.is at lent.3) e.aside e.tally
