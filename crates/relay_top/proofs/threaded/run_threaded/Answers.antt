-- A pump leaves the doors as they are, and a drill, a batch and a server have no source.
use Rattle.std.proofs.Common.{ℕ, List, arith, subst, sym, ◌∙◌}
use Rattle.relay_words.specs.Names.{AreNames}
use Rattle.relay_top.proofs.CommandLemmas.{batch_named, names_of}
use Rattle.relay_top.proofs.ServingLemmas.{served_to, word_is}
use Rattle.relay_top.proofs.threaded.run_threaded.Goals as goal

pub returns-in-Pump : goal.returns-in-Pump
returns-in-Pump g c = rw c.in-Pump.is (c.pump.ensures _)

pub returns-in-Drill : goal.returns-in-Drill
returns-in-Drill g c = rw c.in-Drill.is (c.drill.ensures _ _)

pub batch-requires-clause-names : goal.batch-requires-clause-names
batch-requires-clause-names g c κs within =
    let names = rw c.in-Batch.is at c.requires.names in
    subst (λ (xs : List (List ℕ)). AreNames xs) (sym (names_of c.args.words.now c.in-Batch.names_from)) names

pub returns-in-Batch : goal.returns-in-Batch
returns-in-Batch g c = rw c.in-Batch.is (batch_named _ _ _ _ _ _ _ (names_of c.args.words.now c.in-Batch.names_from) (c.batch.ensures _))

pub returns-in-Serve : goal.returns-in-Serve
returns-in-Serve g c =
    let addresses = rw c.in-Serve.is at c.requires.addresses in
    let target = c.as_str-target.ensures.value ∙ word_is c.args.words.now c.in-Serve.target c.index-words-target.result (omega (arith, addresses.1, addresses.2)) c.index-words-target.is in
    rw c.in-Serve.is (served_to _ _ _ _ _ _ _ target (c.serve.ensures _))
