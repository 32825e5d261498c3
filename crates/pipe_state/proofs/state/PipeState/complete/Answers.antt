use Rattle.std.proofs.Common.{◌≢◌, [], length, ap, sym, subst, ◌∙◌, arith}
use Rattle.pipe_core.specs.Answers.{Woke}
use Rattle.pipe_core.specs.History.{bytes_of, closing}
use Rattle.pipe_state.specs.Held.{HeldAnswers}
use Rattle.pipe_state.proofs.HeldLemmas.{closes, nothing_drafted_runs, total_fits}
use Rattle.pipe_state.proofs.state.PipeState.complete.Goals as goal

pub end-requires-clause-settled : goal.end-requires-clause-settled
end-requires-clause-settled c = nothing_drafted_runs c.args.writing.draft c.is_full.ensures (sym c.draft_len.ensures ∙ c.if-draft_len-eq0.true)

pub returns-then-draft_len-eq0-clause-too_much : goal.returns-then-draft_len-eq0-clause-too_much
returns-then-draft_len-eq0-clause-too_much c =
    let p = c.self.inside in
    let fits = total_fits p.control p.segments p.retired c.self.invariant in let committed = ap (λ s. s.control.committed) c.self.view_is in
    let len = c.draft_len.ensures in let none = c.if-draft_len-eq0.true in
    (λ e. absurd (cc (e)), λ more. absurd (let past = more.1 in omega arith))

pub returns-then-draft_len-eq0-clause-answers : goal.returns-then-draft_len-eq0-clause-answers
returns-then-draft_len-eq0-clause-answers c =
    let none = nothing_drafted_runs c.args.writing.draft c.is_full.ensures (sym c.draft_len.ensures ∙ c.if-draft_len-eq0.true) in
    subst (λ d. HeldAnswers c.args.self.now (closing d c.args.code) (Woke c.end.result) c.end.new.self) (sym none) c.end.ensures

pub returns-in-Ok-clause-answers : goal.returns-in-Ok-clause-answers
returns-in-Ok-clause-answers c =
    let some : c.args.writing.draft ≢ [] = λ e. c.if-draft_len-eq0.false (c.draft_len.ensures ∙ ap (λ d. length (bytes_of d)) e) in
    subst (λ w. HeldAnswers c.args.self.now (closing c.args.writing.draft c.args.code) (Woke w) c.end-second.new.self) (sym c.or.ensures)
    (closes c.args.self.now c.commit.new.self c.end-second.new.self c.args.writing.draft c.args.code c.in-Ok.field-0-0 c.in-Ok.first c.end-second.result some c.in-Ok.ensures.answers c.end-second.ensures)
