use Rattle.std.proofs.Common.{[], refl}
use Rattle.relay_engine.proofs.PipeDrainerLemmas.{begins_new}
use Rattle.relay_engine.proofs.pipe_drainer.Drainer.new.Goals as goal

pub invariant_of-result : goal.invariant_of-result
invariant_of-result c reader is = ([], begins_new _ c.args.end c.args.job.now refl refl c.new.ensures c.reader_has_its_seat.ensures c.requires (c.reader_is_lent_what_it_has_seen.ensures.none c.requires))
