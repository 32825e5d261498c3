-- A filler's draft always fits.
use Rattle.std.proofs.Common.{refl}
use Rattle.relay_engine.proofs.WriterEndLemmas.{local_fits}
use Rattle.relay_engine.proofs.local_writer.LocalPipeFillPipe.commit.Goals as goal

pub unreachable-requires : goal.unreachable-requires
unreachable-requires c =
    local_fits _ _ c.requires.total (c.in-Err.ensures.too_much.0 refl).1
