use Rattle.std.proofs.Common.{◌++◌, subst}
use Rattle.pipe_state.specs.Lying.{AreFull}
use Rattle.pipe_state.specs.Current.{list_of}
use Rattle.pipe_state.proofs.WritingLemmas.{drafts_full}
use Rattle.pipe_state.proofs.writing.Writing.is_full.Goals as goal

pub returns : goal.returns
returns c = subst (λ w. AreFull w.draft) c.self.view_is (drafts_full (c.self.inside.left.items ++ list_of c.self.inside.current))
