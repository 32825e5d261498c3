use Rattle.std.proofs.Common.{sym, subst, ◌∙◌, false, None}
use Rattle.pipe_state.specs.Sides.{filling_of}
use Rattle.pipe_state.specs.Sending.{Tells, committed_in}
use Rattle.pipe_state.proofs.filling.Filling.commit.Goals as goal
use Rattle.pipe_state.proofs.SendingLemmas.{tells}

pub returns-clause-told : goal.returns-clause-told
returns-clause-told c =
    let told = tells c.self.inside.tail c.self.inside.front c.commit.result None c.self.invariant c.commit.ensures.mark.0
    (c.commit.ensures.mark.1 ∙ c.commit.ensures.published) tt in
    subst (λ s. Tells s (committed_in s false) (record { front = c.take.result; mark = c.commit.result; end = None })) c.self.view_is
    (subst (λ f. Tells (filling_of c.self.inside.tail c.self.inside.front) (committed_in (filling_of c.self.inside.tail c.self.inside.front) false) (record { front = f; mark = c.commit.result; end = None })) (sym c.take.ensures.value) told)
