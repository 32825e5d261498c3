-- The bytes are committed at once, or dropped where the reader is gone.
use Rattle.std.proofs.Common.{◌∷◌, ap, length}
use Rattle.pipe_core.specs.History.{Commit, run_in}
use Rattle.pipe_core.proofs.RunLemmas.{run_in_bytes}
use Rattle.pipe_core.proofs.PipeLemmas.{writes, no_draft_after}
use Rattle.pipe_core.proofs.plain_pipe.PlainPipe.write.Goals as goal

pub invariant_of-self-2 : goal.invariant_of-self-2
invariant_of-self-2 c =
    let p = c.self.inside in
    let bytes = c.args.bytes.now in
    let runs = run_in 0 bytes in
    let fits = rw (← c.self.view_is) at c.requires.room in
    let step = c.in_ok-answer.ensures.answers runs (ap length (run_in_bytes 0 bytes)) in
    let answers = writes (record { control = p.control; bytes = p.buffer }) (record { control = c.commit.new.self; bytes = c.commit-2.new.self }) runs bytes _ _ (run_in_bytes 0 bytes) c.is_reader_gone-dropped.ensures fits c.commit-2.ensures step in
    (Commit runs ∷ c.self.invariant.0, answers.stands c.self.invariant.0 c.self.invariant.1)

pub returns-clause-answers : goal.returns-clause-answers
returns-clause-answers c runs are =
    let p = c.self.inside in
    let bytes = c.args.bytes.now in
    let fits = rw (← c.self.view_is) at c.requires.room in
    let step = c.in_ok-answer.ensures.answers runs (ap length are) in
    rw (← c.self.view_is) (writes (record { control = p.control; bytes = p.buffer }) (record { control = c.commit.new.self; bytes = c.commit-2.new.self }) runs bytes _ _ are c.is_reader_gone-dropped.ensures fits c.commit-2.ensures step)

pub returns-clause-draft : goal.returns-clause-draft
returns-clause-draft c =
    let none = rw (← c.self.view_is) at c.requires.no_draft in
    rw c.commit-2.ensures (no_draft_after c.self.inside.buffer _ _ none)
