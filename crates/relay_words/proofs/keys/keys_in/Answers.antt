-- The next word adds its key, or is the first that can't.
use Rattle.std.proofs.Common.{◌≡◌, ◌∷◌, [], ◌++◌, ◌-◌, length, ap, arith}
use Rattle.relay_words.specs.Keys.{keys_among}
use Rattle.relay_words.specs.Words.{texts}
use Rattle.relay_words.proofs.KeysLemmas.{answers, count_on, not_taken, parts_on, reads_on, stops, taken}
use Rattle.relay_words.proofs.keys.keys_in.Goals as goal

pub returns-in_default-with : goal.returns-in_default-with
returns-in_default-with c input output =
    let i = c.loop-word.invariant in
    let word = c.as_str.result.now in
    let at = c.args.count - length c.loop-word.rest.now in
    let rest = texts c.loop-word.rest.now in
    let behind = texts c.in-Some.behind.now in
    let next : rest ≡ word ∷ behind = rw c.as_str.ensures.value (ap texts c.in-Some.ensures.cases.0) in
    let adds_none = not_taken i.done word at c.loop-word.given i.given c.in_default-with.ensures in
    answers _ at (keys_among (texts c.args.keys.now)) (stops input output word (texts c.args.keys.now) i.done rest behind at (i.place input output) next adds_none (omega (arith, i.count)))

pub loop-word-preserved : goal.loop-word-preserved
loop-word-preserved c =
    let i = c.loop-word.invariant in
    let word = c.as_str.result.now in
    let rest = texts c.loop-word.rest.now in
    let behind = texts c.in-Some.behind.now in
    let next : rest ≡ word ∷ behind = rw c.as_str.ensures.value (ap texts c.in-Some.ensures.cases.0) in
    let step = taken i.done word (c.args.count - length c.loop-word.rest.now) c.loop-word.given c.in-Some-with.more i.given (omega (arith, i.count)) c.in-Some-with.ensures in
    record {
      done = i.done ++ word ∷ [];
      parts = parts_on word (texts c.args.keys.now) i.done rest behind i.parts next;
      given = step.1;
      count = count_on word i.done c.loop-word.rest.now c.in-Some.behind.now _ i.count c.in-Some.ensures.cases.1;
      place = λ input output. reads_on input output word (texts c.args.keys.now) i.done rest behind (i.place input output) next step.0;
    }
