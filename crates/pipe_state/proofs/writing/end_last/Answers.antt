use Rattle.std.proofs.Common.{[], true, ap, sym, ◌∙◌, arith}
use Rattle.std.proofs.lemmas.List.{nil_from_length}
use Rattle.pipe_state.specs.Lying.{runs_of}
use Rattle.pipe_state.proofs.TakingLemmas.{finished_runs}
use Rattle.pipe_state.proofs.WritingLemmas.{commits_run, nothing_drafted}
use Rattle.pipe_state.proofs.writing.end_last.Goals as goal

pub returns-then-draft_len-gt0-clause-runs : goal.returns-then-draft_len-gt0-clause-runs
returns-then-draft_len-gt0-clause-runs c =
    let s = c.args.segments.now in
    commits_run s.home s.live c.finish.new.self.live s.writer.segments [] s.blocks c.args.filling true
    (ap (λ w. w.segments) (sym c.finish.ensures.same) ∙ c.requires.only) c.requires.own c.order.ensures
    (let some = c.if-draft_len-gt0.true in let is = c.draft_len.ensures in omega arith) (ap (λ v. v.live) c.finish.ensures.state)

pub returns-then-is_sent-clause-runs : goal.returns-then-is_sent-clause-runs
returns-then-is_sent-clause-runs c =
    let s = c.args.segments.now in
    let none = nil_from_length c.args.filling.draft (let none = c.if-draft_len-gt0.false in let is = c.draft_len.ensures in omega arith) in
    ap (λ v. runs_of v.live) c.finish-then-is_sent.ensures.state
    ∙ finished_runs s.home s.live s.writer.segments s.blocks c.args.filling c.order.ensures (ap (λ w. w.segments) (sym c.finish-then-is_sent.ensures.same) ∙ c.requires.only)
    (sym c.is_sent.ensures ∙ c.if-is_sent.true) none
    ∙ nothing_drafted s.home s.live s.writer.segments s.blocks c.args.filling.label.id c.args.filling.draft c.requires.own c.order.ensures none

pub returns-else-is_sent-clause-runs : goal.returns-else-is_sent-clause-runs
returns-else-is_sent-clause-runs c =
    let s = c.args.segments.now in
    ap (λ v. runs_of v.live) c.give_back.ensures.state
    ∙ nothing_drafted s.home s.live s.writer.segments s.blocks c.args.filling.label.id c.args.filling.draft c.requires.own c.order.ensures
    (nil_from_length c.args.filling.draft (let none = c.if-draft_len-gt0.false in let is = c.draft_len.ensures in omega arith))
