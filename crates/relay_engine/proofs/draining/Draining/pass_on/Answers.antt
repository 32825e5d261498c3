use Rattle.span_seq.specs.Sequence.{bytes}
use Rattle.relay_engine.proofs.LendLemmas.{lent_small}
use Rattle.relay_engine.proofs.draining.Draining.pass_on.Goals as goal

pub write_lent-requires-clause-small : goal.write_lent-requires-clause-small
write_lent-requires-clause-small g c =
    let known = c.requires.known in
    lent_small known.0 (bytes c.lent-lent.result) known.2 (c.lent-lent.ensures.bytes known.0 known.1)
