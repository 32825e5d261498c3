-- The draft has gone into the history, or has stayed.
use Rattle.std.proofs.Common.{sym, subst}
use Rattle.pipe_shared.specs.Ends.{IsWriter}
use Rattle.pipe_shared.proofs.EndLemmas.{writer_refused, writer_commits}
use Rattle.pipe_shared.proofs.pipe.Pipe.try_flush.Goals as goal

pub invariant_of-w : goal.invariant_of-w
invariant_of-w c =
    subst (IsWriter c.commit.new.seat) (sym c.in_err-answer.ensures.unchanged) (writer_refused _ c.in_err-answer.field-0.0 c.w.inside.seat c.commit.new.seat c.w.inside.part c.w.invariant c.in_err-answer.ensures.refused)

pub invariant_of-w-2 : goal.invariant_of-w-2
invariant_of-w-2 c = writer_commits _ _ c.w.inside.seat c.commit.new.seat c.w.inside.part c.commit.new.part c.w.invariant c.in_ok-answer.ensures.made c.in_ok-answer.ensures.part
