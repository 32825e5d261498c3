-- The indices of words fit, and a batch is made of what was read.
use Rattle.std.proofs.Common.{arith, [], ◌∷◌, ◌≡◌, ap, length, sym, ◌∙◌, List}
use Rattle.std.specs.Prelude.{String, string_bytes}
use Rattle.std.specs.declared.alloc.Global.{Global}
use Rattle.relay_words.specs.Words.{texts}
use Rattle.relay_words.proofs.BatchReading.{batch_made, key_word, resume_word}
use Rattle.relay_words.proofs.RangeLemmas.{texts_len}
use Rattle.relay_words.proofs.batch.batch_with.Goals as goal

pub overflow_add-result : goal.overflow_add-result
overflow_add-result c =
    let keys = c.split_keys.result.0.now in
    omega (arith, key_word (texts keys) c.in-Err.word (c.in-Err.ensures [] []), texts_len keys, c.split_keys.ensures.parts)

pub overflow_add-result-in-Err-job : goal.overflow_add-result-in-Err-job
overflow_add-result-in-Err-job c =
    let keys = c.split_keys.result.0.now in
    omega (arith, resume_word c.in-Some-framing.input c.in-Some-framing-2.output (texts keys) c.in-Ok.keys c.in-Err-job.word (c.in-Ok.ensures [] []) c.in-Err-job.ensures, texts_len keys, c.split_keys.ensures.parts)

pub returns-in-Ok-job : goal.returns-in-Ok-job
returns-in-Ok-job c =
    let rest = c.in-Some-split_first.rest.now in
    let keys = c.split_keys.result.0.now in
    let all : texts c.args.words.now ≡ c.as_str.result.now ∷ (c.as_str-2.result.now ∷ texts rest) =
    rw (c.as_str.ensures.value, c.as_str-2.ensures.value) (ap texts c.in-Some.ensures.cases.0 ∙ ap (λ (x : List (String Global)). string_bytes c.in-Some.input.now ∷ texts x) c.in-Some-split_first.ensures.cases.0) in
    batch_made c.args.workers (length keys) c.as_str.result.now c.as_str-2.result.now (texts c.args.words.now) (texts rest) (texts keys) (texts c.split_keys.result.1.now)
    c.in-Some-framing.input c.in-Some-framing-2.output c.in-Ok.keys c.in-Ok-job.job all c.split_keys.ensures.keys c.split_keys.ensures.behind
    c.in-Some-framing.ensures c.in-Some-framing-2.ensures (c.in-Ok.ensures c.as_str.result.now c.as_str-2.result.now) c.in_default-misnamed.ensures.value
    (grind (arith, c.if-is_empty.ensures, texts_len c.split_keys.result.1.now)) c.in-Ok-job.ensures (sym (texts_len keys))
