use Rattle.relay_words.specs.Words.{texts}
use Rattle.relay_top.proofs.local.relay_local.Goals as goal

pub returns-clause-whole : goal.returns-clause-whole
returns-clause-whole g c = λ doors. c.what_runs_come_to.ensures.whole (texts c.args.words.now) c.run_words.result _ _ (c.run_words.ensures doors)
