-- How the relay into memory ended says what is told.
use Rattle.std.proofs.Common.{refl, subst, ap, ◌∙◌}
use Rattle.relay_model.specs.declared.ending.Outcome.{Outcome}
use Rattle.relay_model.specs.Ending.{status_of}
use Rattle.relay_model.specs.Lines.{line_of}
use Rattle.relay_top.specs.Drill.{EndsAs}
use Rattle.relay_top.proofs.DrillLemmas.{is_bad}
use Rattle.relay_top.proofs.drill.drill.Goals as goal

pub returns-in-Clean : goal.returns-in-Clean
returns-in-Clean g c = λ source doors.
    let report = c.in-Ok.report in
    c.sum_up.ensures c.args.seed c.args.job.now source doors
    (subst (λ (o : Outcome). EndsAs c.args.seed c.args.count c.args.job.now report.taken report.written o) c.in-Clean.is c.in-Ok.ensures)

pub returns-in-BadFrame : goal.returns-in-BadFrame
returns-in-BadFrame g c = λ source doors.
    let report = c.in-Ok.report in
    is_bad c.args.seed c.args.count c.args.job.now source doors _ _ _ _ report.taken report.written c.in-BadFrame.place c.status_of.result c.in-BadFrame.kind _
    (subst (λ (o : Outcome). EndsAs c.args.seed c.args.count c.args.job.now report.taken report.written o) c.in-BadFrame.is c.in-Ok.ensures)
    (c.status_of.ensures ∙ ap status_of c.in-BadFrame.is) refl c.report_on.ensures
    (ap (λ (o : Outcome). line_of o report.taken report.written) c.in-BadFrame.is)
