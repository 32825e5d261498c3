-- Whatever the runs are.
use Rattle.pipe_core.specs.History.{run_in}
use Rattle.pipe_core.proofs.RunLemmas.{run_in_bytes}
use Rattle.pipe_rows.proofs.plain.write_whole.Goals as goal

pub returns-in-Ok-clause-gone : goal.returns-in-Ok-clause-gone
returns-in-Ok-clause-gone c = (c.in-Ok.ensures.answers (run_in 0 c.args.bytes.now) (run_in_bytes 0 c.args.bytes.now)).gone

pub returns-in-Ok-clause-lent : goal.returns-in-Ok-clause-lent
returns-in-Ok-clause-lent c = (c.in-Ok.ensures.answers (run_in 0 c.args.bytes.now) (run_in_bytes 0 c.args.bytes.now)).lent
