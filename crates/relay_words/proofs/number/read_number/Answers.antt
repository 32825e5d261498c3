-- What is read is what the digits write.
use Rattle.std.proofs.Common.{sym, ◌∙◌}
use Rattle.relay_words.proofs.NumberLemmas.{reads}
use Rattle.relay_words.proofs.number.read_number.Goals as goal

pub returns-then-is_plain : goal.returns-then-is_plain
returns-then-is_plain c =
    let read = reads c.args.word.now c.parse.result c.parse.ensures.value.0 (sym (rw c.as_bytes.ensures.value at c.is_numeral.ensures) ∙ c.if-is_numeral.true) (sym (rw c.as_bytes-then-is_numeral.ensures.value at c.is_plain.ensures) ∙ c.if-is_plain.true) in
    rw read.0 at c.ok.ensures.value ∙ sym read.1
