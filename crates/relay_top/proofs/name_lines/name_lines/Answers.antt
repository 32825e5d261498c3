use Rattle.std.proofs.Common.{ℕ, List, ap, subst, arith}
use Rattle.std.specs.List.{All}
use Rattle.std.specs.Prelude.{string_bytes}
use Rattle.std.proofs.lemmas.List.Elements.{All-head, All-tail}
use Rattle.relay_words.specs.Names.{IsName}
use Rattle.relay_words.specs.Words.{texts}
use Rattle.relay_top.proofs.NameLemmas.{line_more}
use Rattle.relay_top.proofs.name_lines.name_lines.Goals as goal

pub loop-name-preserved : goal.loop-name-preserved
loop-name-preserved c = (
  line_more _ _ c.as_str.result.now c.in-Some-split_first.answer.now (texts c.loop-name.names.now) (texts c.in-Some.other_names.now) c.loop-name.answers.now c.in-Some-split_first.other_answers.now _
      (rw c.as_str.ensures.value (ap texts c.in-Some.ensures.cases.0)) c.in-Some-split_first.ensures.cases.0 c.add_line.ensures.added c.loop-name.invariant.0,
  omega (arith, c.loop-name.invariant.1, c.in-Some.ensures.cases.1, c.in-Some-split_first.ensures.cases.1),
  All-tail IsName (string_bytes c.in-Some.name.now) (texts c.in-Some.other_names.now) (subst (λ (xs : List (List ℕ)). All IsName xs) (ap texts c.in-Some.ensures.cases.0) c.loop-name.invariant.2),
  omega (arith, c.loop-name.invariant.3, c.add_line.ensures.len, c.add_line.ensures.capacity, c.in-Some.ensures.cases.1),
)

pub add_line-requires-clause-short : goal.add_line-requires-clause-short
add_line-requires-clause-short c =
    let name = All-head IsName (string_bytes c.in-Some.name.now) (texts c.in-Some.other_names.now) (subst (λ (xs : List (List ℕ)). All IsName xs) (ap texts c.in-Some.ensures.cases.0) c.loop-name.invariant.2) in
    rw c.as_str.ensures.value name.short
