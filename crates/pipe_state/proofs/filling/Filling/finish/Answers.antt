use Rattle.std.proofs.Common.{subst, ◌∙◌, true, Some}
use Rattle.pipe_state.specs.Sending.{Tells, committed_in}
use Rattle.pipe_state.proofs.filling.Filling.finish.Goals as goal
use Rattle.pipe_state.proofs.SendingLemmas.{end_is, tells}

pub returns : goal.returns
returns c =
    let ends = end_is c.self.inside.tail c.commit.new.self c.finish.result c.commit.ensures.tail c.finish.ensures in
    let told = tells c.self.inside.tail c.self.inside.front c.commit.result (Some c.finish.result) c.self.invariant c.commit.ensures.mark.0
    (c.commit.ensures.mark.1 ∙ c.commit.ensures.published) ends in
    subst (λ s. Tells s (committed_in s true) (record { front = c.self.inside.front; mark = c.commit.result; end = Some c.finish.result })) c.self.view_is told
