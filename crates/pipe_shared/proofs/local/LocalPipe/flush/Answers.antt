-- The draft is committed, or all is as it was.
use Rattle.std.proofs.Common.{subst}
use Rattle.pipe_shared.specs.Local.{IsLocal}
use Rattle.pipe_shared.specs.declared.local_writer.LocalWriter.{LocalWriter}
use Rattle.pipe_shared.proofs.LocalLemmas.{flushed}
use Rattle.pipe_shared.proofs.local.LocalPipe.flush.Goals as goal

pub invariant_of-self : goal.invariant_of-self
invariant_of-self c =
    let p = c.self.inside in
    let before = subst (λ (w : LocalWriter). IsLocal p.options p.state w p.reading p.list) c.in-Going.is c.self.invariant in
    flushed p.options p.state c.commit.new.self c.in-Going.writing c.commit.new.writing p.reading p.list c.commit.result before c.commit.ensures.answers c.commit.ensures.writing c.commit.ensures.unchanged
