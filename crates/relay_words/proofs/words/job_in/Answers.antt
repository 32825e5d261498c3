-- What holds of a job holds since the words say it.
use Rattle.relay_words.specs.Words.{texts}
use Rattle.relay_words.proofs.RangeLemmas.{has_limit, is_in_range, is_within}
use Rattle.relay_words.proofs.words.job_in.Goals as goal

pub returns-clause-in_range : goal.returns-clause-in_range
returns-clause-in_range c = is_in_range (texts c.args.words.now) c.read_job.result c.read_job.ensures

pub returns-clause-limit : goal.returns-clause-limit
returns-clause-limit c = has_limit (texts c.args.words.now) c.read_job.result c.read_job.ensures

pub returns-clause-word : goal.returns-clause-word
returns-clause-word c = is_within c.args.words.now c.read_job.result c.read_job.ensures
