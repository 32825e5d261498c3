use Rattle.std.proofs.Common.{sym, ◌∙◌}
use Rattle.relay_words.proofs.KeysLemmas.{named, not_named}
use Rattle.relay_words.proofs.keys.number_of_key.Goals as goal

pub returns-in-Some : goal.returns-in-Some
returns-in-Some c = c.number_within.ensures.value ∙ sym (named c.args.name.now c.args.word.now c.in-Some.number.now c.args.least c.args.greatest c.in-Some.ensures.cases)

pub returns-in-None : goal.returns-in-None
returns-in-None c = sym (not_named c.args.name.now c.args.word.now c.args.least c.args.greatest c.in-None.ensures.cases)
