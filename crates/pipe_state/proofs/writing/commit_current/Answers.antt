use Rattle.std.proofs.Common.{◌++◌, ap, sym, ◌∙◌}
use Rattle.std.proofs.lemmas.List.{append-nil}
use Rattle.pipe_core.specs.Lends.{joined}
use Rattle.pipe_state.specs.Lying.{runs_of}
use Rattle.pipe_state.proofs.RunLemmas.{live_apart}
use Rattle.pipe_state.proofs.WritingLemmas.{untaken_drafts}
use Rattle.pipe_state.proofs.writing.commit_current.Goals as goal

pub returns-in-Untaken-clause-runs : goal.returns-in-Untaken-clause-runs
returns-in-Untaken-clause-runs c =
    let s = c.args.segments.now in
    sym (ap (λ d. joined (runs_of s.live ++ d)) (untaken_drafts c.args.current.now c.in-Untaken.field-0 c.in-Untaken.is) ∙ ap joined (append-nil (runs_of s.live))
    ∙ live_apart s.home s.live s.writer.segments s.blocks c.requires.own c.order.ensures)
