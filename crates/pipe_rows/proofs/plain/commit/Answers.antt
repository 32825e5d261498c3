-- Whatever the runs are.
use Rattle.pipe_core.proofs.StandingLemmas.{run_of, run_of_len}
use Rattle.pipe_rows.proofs.plain.commit.Goals as goal

pub returns-in-Ok-clause-ended : goal.returns-in-Ok-clause-ended
returns-in-Ok-clause-ended c = (c.in-Ok.ensures.answers (run_of c.args.n) (run_of_len c.args.n)).ended

pub returns-in-Ok-clause-gone : goal.returns-in-Ok-clause-gone
returns-in-Ok-clause-gone c = (c.in-Ok.ensures.answers (run_of c.args.n) (run_of_len c.args.n)).gone

pub returns-in-Ok-clause-lent : goal.returns-in-Ok-clause-lent
returns-in-Ok-clause-lent c = (c.in-Ok.ensures.answers (run_of c.args.n) (run_of_len c.args.n)).lent
