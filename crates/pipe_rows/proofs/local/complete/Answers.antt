-- Whatever the draft is.
use Rattle.std.proofs.Common.{refl, sym, subst, ◌∙◌}
use Rattle.std.specs.Prelude.{IsSome}
use Rattle.pipe_rows.proofs.ClosingLemmas.{closing_ended, closing_gone, closing_lent}
use Rattle.pipe_rows.proofs.local.complete.Goals as goal

pub returns-in-Ok-clause-gone : goal.returns-in-Ok-clause-gone
returns-in-Ok-clause-gone c = c.in-Ok.ensures.answers.gone ∙ closing_gone c.args.pipe.now.draft c.args.code _

pub returns-in-Ok-clause-lent : goal.returns-in-Ok-clause-lent
returns-in-Ok-clause-lent c = c.in-Ok.ensures.answers.lent ∙ closing_lent c.args.pipe.now.draft c.args.code _ _

pub returns-in-Ok-clause-ended : goal.returns-in-Ok-clause-ended
returns-in-Ok-clause-ended c = subst IsSome (sym (c.in-Ok.ensures.answers.ended ∙ closing_ended c.args.pipe.now.draft c.args.code _)) refl
