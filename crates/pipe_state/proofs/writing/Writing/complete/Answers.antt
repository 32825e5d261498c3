use Rattle.std.proofs.Common.{◌∷◌, ◌++◌, [], ap, sym, ◌∙◌}
use Rattle.std.proofs.lemmas.List.{append-nil}
use Rattle.pipe_core.specs.Lends.{joined}
use Rattle.pipe_state.specs.Lying.{runs_of}
use Rattle.pipe_state.specs.Current.{drafts_in, list_of}
use Rattle.pipe_state.proofs.WritingLemmas.{drafts_joined}
use Rattle.pipe_state.proofs.writing.Writing.complete.Goals as goal

pub returns-in-Filling-clause-runs : goal.returns-in-Filling-clause-runs
returns-in-Filling-clause-runs c =
    let w = c.self.inside in
    drafts_joined (runs_of c.args.segments.now.live) (runs_of c.finish_left.new.segments.live) (runs_of c.end_last.new.segments.live) w.left.items (c.in-Filling.filling ∷ [])
    c.finish_left.ensures.runs (c.end_last.ensures.runs ∙ ap (λ d. joined (runs_of c.finish_left.new.segments.live ++ d)) (sym (append-nil _)))
    ∙ ap (λ cur. joined (runs_of c.args.segments.now.live ++ drafts_in (w.left.items ++ list_of cur))) (sym c.in-Filling.is)
    ∙ ap (λ v. joined (runs_of c.args.segments.now.live ++ v.draft)) c.self.view_is
