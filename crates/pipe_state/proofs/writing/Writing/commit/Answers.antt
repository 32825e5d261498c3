use Rattle.std.proofs.Common.{◌++◌, ap, ◌∙◌}
use Rattle.pipe_core.specs.Lends.{joined}
use Rattle.pipe_state.specs.Lying.{runs_of}
use Rattle.pipe_state.specs.Current.{drafts_in, list_of}
use Rattle.pipe_state.proofs.WritingLemmas.{committed_writing, drafts_joined}
use Rattle.pipe_state.proofs.writing.Writing.commit.Goals as goal

pub invariant_of-self : goal.invariant_of-self
invariant_of-self c =
    let w = c.self.inside in
    committed_writing w.left c.finish_left.new.left w.current c.commit_current.new.current w.drafted w.count w.size w.half.value c.agree-2.new.half.value
    c.finish_left.ensures.left c.commit_current.ensures.current (ap (λ h. h.segments) (c.agree-2.ensures.half.0 ∙ c.commit_current.ensures.half)) c.self.invariant

pub returns-clause-runs : goal.returns-clause-runs
returns-clause-runs c =
    let w = c.self.inside in
    drafts_joined (runs_of c.args.segments.now.live) (runs_of c.finish_left.new.segments.live) (runs_of c.agree-2.new.self.live) w.left.items (list_of w.current)
    (c.finish_left.ensures.runs ∙ ap (λ s. joined (runs_of s.live ++ drafts_in w.left.items)) c.agree.ensures.segments) (ap (λ s. runs_of s.live) c.agree-2.ensures.segments ∙ c.commit_current.ensures.runs)
    ∙ ap (λ v. joined (runs_of c.args.segments.now.live ++ v.draft)) c.self.view_is
