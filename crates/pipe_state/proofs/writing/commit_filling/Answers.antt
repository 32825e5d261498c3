use Rattle.std.proofs.Common.{[], false, ap, sym, subst, ◌∙◌, arith}
use Rattle.std.proofs.lemmas.List.{nil_from_length}
use Rattle.pipe_state.specs.Segments.{AreFilled}
use Rattle.pipe_state.specs.Sending.{committed_in}
use Rattle.pipe_state.proofs.WritingLemmas.{commits_run, going_filled, nothing_drafted, sent_filled}
use Rattle.pipe_state.proofs.writing.commit_filling.Goals as goal

pub returns-then-draft_len-gt0-clause-runs : goal.returns-then-draft_len-gt0-clause-runs
returns-then-draft_len-gt0-clause-runs c =
    let s = c.args.segments.now in
    commits_run s.home s.live c.commit.new.self.live s.writer.segments [] s.blocks c.args.filling.now false
    (ap (λ w. w.segments) (sym c.commit.ensures.same) ∙ c.requires.only) c.requires.own c.order.ensures
    (let some = c.if-draft_len-gt0.true in let is = c.draft_len.ensures in omega arith) (ap (λ v. v.live) c.commit.ensures.state)

pub returns-else-draft_len-gt0-clause-runs : goal.returns-else-draft_len-gt0-clause-runs
returns-else-draft_len-gt0-clause-runs c =
    let s = c.args.segments.now in
    nothing_drafted s.home s.live s.writer.segments s.blocks c.args.filling.now.label.id c.args.filling.now.draft c.requires.own c.order.ensures
    (nil_from_length c.args.filling.now.draft (let none = c.if-draft_len-gt0.false in let is = c.draft_len.ensures in omega arith))

pub returns-then-draft_len-gt0-clause-filled : goal.returns-then-draft_len-gt0-clause-filled
returns-then-draft_len-gt0-clause-filled c all =
    let f = c.args.filling.now in let hint = c.args.half.now.value.hint in
    subst (AreFilled hint) (sym (ap (λ v. v.live) c.commit.ensures.state)) (sent_filled hint f.sent (committed_in f false) c.args.segments.now.live (going_filled hint f) all)
