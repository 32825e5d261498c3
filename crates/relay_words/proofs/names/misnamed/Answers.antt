-- The next word can be a name behind those before it, or is the first that can't.
use Rattle.std.proofs.Common.{◌≡◌, ◌∷◌, [], ◌++◌, sym, ◌∙◌, ap, arith, List, ℕ}
use Rattle.relay_words.specs.Names.{can_join}
use Rattle.relay_words.specs.Words.{texts}
use Rattle.relay_words.proofs.KeysLemmas.{parts_on}
use Rattle.relay_words.proofs.NamesLemmas.{front_is, goes_on, length_on, stops_at}
use Rattle.relay_words.proofs.names.misnamed.Goals as goal

pub returns-then-not-can_join-clause-value : goal.returns-then-not-can_join-clause-value
returns-then-not-can_join-clause-value c =
    let i = c.loop-word.invariant in
    let word = c.as_str.result.now in
    let next : texts c.loop-word.rest.now ≡ word ∷ texts c.in-Some.behind.now = rw c.as_str.ensures.value (ap texts c.in-Some.ensures.cases.0) in
    let before = front_is c.args.words.now c.loop-word.rest.now i.done i.parts i.count in
    let joins_not = ap (λ (x : List (List ℕ)). can_join x word) (sym before) ∙ sym c.can_join.ensures ∙ c.if-not-can_join.true in
    stops_at (texts c.args.words.now) i.done (texts c.loop-word.rest.now) (texts c.in-Some.behind.now) word _ i.place next joins_not (omega (arith, i.count))

pub loop-word-preserved : goal.loop-word-preserved
loop-word-preserved c =
    let i = c.loop-word.invariant in
    let word = c.as_str.result.now in
    let next : texts c.loop-word.rest.now ≡ word ∷ texts c.in-Some.behind.now = rw c.as_str.ensures.value (ap texts c.in-Some.ensures.cases.0) in
    let before = front_is c.args.words.now c.loop-word.rest.now i.done i.parts i.count in
    let joins = ap (λ (x : List (List ℕ)). can_join x word) (sym before) ∙ sym c.can_join.ensures ∙ c.if-not-can_join.false in
    record {
      done = i.done ++ word ∷ [];
      parts = parts_on word (texts c.args.words.now) i.done (texts c.loop-word.rest.now) (texts c.in-Some.behind.now) i.parts next;
      count = length_on word i.done c.loop-word.rest.now c.in-Some.behind.now _ i.count c.in-Some.ensures.cases.1;
      place = goes_on (texts c.args.words.now) i.done (texts c.loop-word.rest.now) (texts c.in-Some.behind.now) word i.place next joins;
    }
