use Rattle.relay_engine.specs.LocalEnds.{HoldsLocal, NoOthers, RefusesNone}
use Rattle.relay_engine.specs.WriterEnds.{local_drafting}
use Rattle.relay_engine.proofs.FillingLemmas.{took}
use Rattle.relay_engine.proofs.pump.fill_once.Goals as goal

pub unreachable-requires : goal.unreachable-requires
unreachable-requires g c = let own = c.requires.holds in (took HoldsLocal NoOthers local_drafting RefusesNone _ _ _ _ _ _ _ _ _ _ _ (c.in-Err.ensures.fills own.0 own.1 own.2)).met.1
