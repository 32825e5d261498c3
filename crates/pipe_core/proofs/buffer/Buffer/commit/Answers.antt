-- What was copied to the front of the free part is the new end of what is held.
use Rattle.std.proofs.Common.{ap, ◌∙◌, drop, length, ◌++◌}
use Rattle.pipe_core.proofs.BufferLemmas.{committed_by}
use Rattle.pipe_core.proofs.buffer.Buffer.commit.Goals as goal

pub returns : goal.returns
returns c =
    let bytes = c.args.bytes.now in
    let written = c.copy_to_front.ensures ∙ ap (λ free. bytes ++ drop (length bytes) free) c.free_mut.ensures.value in
    rw c.if-dropped.false (committed_by c.args.self.now c.extend_draft.new.self c.settle_draft.new.self bytes _ c.requires.no_draft c.requires.room c.extend_draft.ensures c.settle_draft.ensures written)
