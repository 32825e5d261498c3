-- The draft is committed, or dropped where the reader is gone.
use Rattle.std.proofs.Common.{sym, ◌∙◌, ◌∷◌, ap, length}
use Rattle.pipe_core.specs.History.{Commit, run_in}
use Rattle.pipe_core.proofs.RunLemmas.{run_in_bytes}
use Rattle.pipe_core.proofs.PipeLemmas.{flushes}
use Rattle.pipe_core.proofs.plain_pipe.PlainPipe.flush.Goals as goal

pub invariant_of-self-2 : goal.invariant_of-self-2
invariant_of-self-2 c =
    let p = c.self.inside in
    let draft = p.buffer.draft in
    let runs = run_in 0 draft in
    let step = c.in_ok-answer.ensures.answers runs (ap length (run_in_bytes 0 draft) ∙ sym c.draft_len.ensures) in
    let answers = flushes (record { control = p.control; bytes = p.buffer }) (record { control = c.commit.new.self; bytes = c.settle_draft.new.self }) runs _ _ (run_in_bytes 0 draft) c.is_reader_gone-dropped.ensures c.settle_draft.ensures step in
    (Commit runs ∷ c.self.invariant.0, answers.stands c.self.invariant.0 c.self.invariant.1)

pub returns-clause-answers : goal.returns-clause-answers
returns-clause-answers c runs are =
    let p = c.self.inside in
    let drafted = rw (← c.self.view_is) at are in
    let step = c.in_ok-answer.ensures.answers runs (ap length drafted ∙ sym c.draft_len.ensures) in
    rw (← c.self.view_is) (flushes (record { control = p.control; bytes = p.buffer }) (record { control = c.commit.new.self; bytes = c.settle_draft.new.self }) runs _ _ drafted c.is_reader_gone-dropped.ensures c.settle_draft.ensures step)
