-- Whatever the runs are.
use Rattle.pipe_core.specs.History.{run_in}
use Rattle.pipe_core.proofs.RunLemmas.{run_in_bytes}
use Rattle.pipe_rows.proofs.plain.flush.Goals as goal

pub returns-in-Ok-clause-ended : goal.returns-in-Ok-clause-ended
returns-in-Ok-clause-ended c = (c.in-Ok.ensures.answers (run_in 0 c.args.pipe.now.bytes.draft) (run_in_bytes 0 c.args.pipe.now.bytes.draft)).ended

pub returns-in-Ok-clause-gone : goal.returns-in-Ok-clause-gone
returns-in-Ok-clause-gone c = (c.in-Ok.ensures.answers (run_in 0 c.args.pipe.now.bytes.draft) (run_in_bytes 0 c.args.pipe.now.bytes.draft)).gone

pub returns-in-Ok-clause-lent : goal.returns-in-Ok-clause-lent
returns-in-Ok-clause-lent c = (c.in-Ok.ensures.answers (run_in 0 c.args.pipe.now.bytes.draft) (run_in_bytes 0 c.args.pipe.now.bytes.draft)).lent
