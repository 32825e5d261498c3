-- Nothing was taken.
use Rattle.std.proofs.Common.{refl, ap}
use Rattle.relay_engine.proofs.PipeFillerLemmas.{new_filler, none_taken}
use Rattle.relay_engine.proofs.pipe_filler.Filler.new.Goals as goal

pub invariant_of-result : goal.invariant_of-result
invariant_of-result c = new_filler _ c.args.end (ap (λ f. f.taken) c.new.ensures) (ap (λ f. f.drafted) c.new.ensures) (rw c.new.ensures c.requires.limit) c.writer_has_its_seat.ensures c.requires.unused c.requires.undrafted

pub returns-clause-unused : goal.returns-clause-unused
returns-clause-unused c = (none_taken c.args.end c.writer_has_its_seat.ensures c.requires.unused c.requires.undrafted, refl, refl)
