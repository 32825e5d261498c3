-- The index of a word fits.
use Rattle.std.proofs.Common.{arith, ◌∷◌, sym}
use Rattle.relay_words.specs.Words.{texts}
use Rattle.relay_words.proofs.RangeLemmas.{texts_len, word_within}
use Rattle.relay_words.proofs.serve.serve_from.Goals as goal

pub overflow_add-result : goal.overflow_add-result
overflow_add-result c =
    let keys = c.in-Some-split_first-2.keys.now in
    let first = c.as_str.result.now in
    let second = c.as_str-2.result.now in
    omega (arith, word_within (first ∷ second ∷ texts keys) c.in-Err.word (sym (c.in-Err.ensures first second c.in-Some-framing.ensures c.in-Some-framing-2.ensures)), texts_len keys, c.in-Some.ensures.cases.1, c.in-Some-split_first.ensures.cases.1, c.in-Some-split_first-2.ensures.cases.1)
