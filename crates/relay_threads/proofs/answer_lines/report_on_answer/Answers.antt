use Rattle.std.proofs.Common.{ℕ, List, ◌++◌, subst}
use Rattle.std.specs.Prelude.{codes}
use Rattle.relay_model.specs.Lines.{IsWritten}
use Rattle.relay_model.specs.Answers.{cause_of_answer}
use Rattle.relay_threads.proofs.LineLemmas.{broken_line, line_behind}
use Rattle.relay_threads.proofs.answer_lines.report_on_answer.Goals as goal

pub returns-in_default : goal.returns-in_default
returns-in_default g c =
    subst (λ (text : List ℕ). IsWritten (text ++ (codes ": " ++ cause_of_answer c.args.answer.now)) (g.E.Sink.state c.args.faults.now) (g.E.Sink.state c.write_all.new.sink)) c.as_bytes.ensures.value
    (broken_line _ _ _ _ _ c.in_default.ensures.front)

pub returns-in_default-write_all : goal.returns-in_default-write_all
returns-in_default-write_all g c =
    subst (λ (text : List ℕ). IsWritten (text ++ (codes ": " ++ cause_of_answer c.args.answer.now)) (g.E.Sink.state c.args.faults.now) (g.E.Sink.state c.write_all-2.new.sink)) c.as_bytes.ensures.value
    (line_behind _ _ _ _ _ c.in-Ok.ensures.whole (broken_line _ _ _ _ _ c.in_default-write_all.ensures.front))

pub returns : goal.returns
returns g c =
    subst (λ (text : List ℕ). IsWritten (text ++ (codes ": " ++ cause_of_answer c.args.answer.now)) (g.E.Sink.state c.args.faults.now) (g.E.Sink.state c.report_on.new.faults)) c.as_bytes.ensures.value
    (line_behind _ _ _ _ _ c.in-Ok.ensures.whole (line_behind _ _ _ _ _ c.in-Ok-write_all.ensures.whole
    (subst (λ (line : List ℕ). IsWritten line (g.E.Sink.state c.write_all-2.new.sink) (g.E.Sink.state c.report_on.new.faults)) c.cause_of.ensures c.report_on.ensures)))
