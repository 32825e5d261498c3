-- Whatever the runs are.
use Rattle.std.proofs.Common.{◌∙◌}
use Rattle.pipe_core.specs.History.{run_in}
use Rattle.pipe_core.proofs.RunLemmas.{run_in_holds}
use Rattle.pipe_rows.proofs.ClosingLemmas.{closing_gone, closing_lent}
use Rattle.pipe_rows.proofs.plain.complete.Goals as goal

pub returns-in-Ok-clause-gone : goal.returns-in-Ok-clause-gone
returns-in-Ok-clause-gone c =
    let draft = c.args.pipe.now.bytes.draft in
    (c.in-Ok.ensures.answers (run_in 0 draft) (run_in_holds 0 draft)).gone ∙ closing_gone (run_in 0 draft) c.args.code _

pub returns-in-Ok-clause-lent : goal.returns-in-Ok-clause-lent
returns-in-Ok-clause-lent c =
    let draft = c.args.pipe.now.bytes.draft in
    (c.in-Ok.ensures.answers (run_in 0 draft) (run_in_holds 0 draft)).lent ∙ closing_lent (run_in 0 draft) c.args.code _ _
