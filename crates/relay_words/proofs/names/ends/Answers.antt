use Rattle.std.proofs.lemmas.Str.Pattern.{ends_text}
use Rattle.relay_words.proofs.names.ends.Goals as goal

pub returns : goal.returns
returns c = ends_text c.ends_with.result c.args.end.now c.args.word.now c.ends_with.ensures.cases
