use Rattle.std.proofs.Common.{◌∙◌, rules, tests}
use Rattle.std.specs.Prelude.{string_bytes}
use Rattle.std.specs.Str.{bytes_eq}
use Rattle.std.proofs.lemmas.Iterator.{YieldsList-from_slice}
use Rattle.std.proofs.lemmas.Iterator.Search.{any_from_yields_List}
use Rattle.relay_words.proofs.TextsLemmas.{any_text}
use Rattle.relay_words.proofs.names.is_among.Goals as goal

pub returns : goal.returns
returns c =
    any_from_yields_List (λ word. bytes_eq c.args.word.now (string_bytes word)) _ _ c.any.result c.any.ensures.ran (YieldsList-from_slice c.args.names.now cc) (λ x b q k. search (rules, tests))
    ∙ any_text (bytes_eq c.args.word.now) c.args.names.now
