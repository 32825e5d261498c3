-- What holds of a server holds since the words say it.
use Rattle.relay_words.specs.Words.{texts}
use Rattle.relay_words.proofs.ServeLemmas.{has_limit, is_in_range, makes_none}
use Rattle.relay_words.proofs.serve.serve_in.Goals as goal

pub returns-clause-in_range : goal.returns-clause-in_range
returns-clause-in_range c = is_in_range (texts c.args.words.now) c.read_serve.result c.read_serve.ensures

pub returns-clause-limit : goal.returns-clause-limit
returns-clause-limit c = has_limit (texts c.args.words.now) c.read_serve.result c.read_serve.ensures

pub returns-clause-few : goal.returns-clause-few
returns-clause-few c = makes_none (texts c.args.words.now) c.read_serve.result c.read_serve.ensures
