use Rattle.std.proofs.Common.{None, Some, refl, ap}
use Rattle.relay_engine.specs.PipeDrainer.{RefusesToEnd}
use Rattle.relay_engine.proofs.PipeDrainerLemmas.{ends_reader, owes_by, owing}
use Rattle.relay_engine.proofs.pipe_drainer.Drainer.complete.Goals as goal
use Rattle.relay_engine.proofs.pipe_drainer.Drainer.complete.Goals.{After-refused}

pub returns-in-Ok-clause-completes : goal.returns-in-Ok-clause-completes
returns-in-Ok-clause-completes c =
    (refl, ap (λ d. d.draining) c.self.view_is, (c.in-Ok.done, refl, ends_reader _ c.code.result _ _ c.args.end c.in-Ok.done c.code.ensures (c.others_are_heard_first.ensures.made 1 _ _ _ _ _ c.reader_has_its_seat.ensures c.in-Ok.ensures.made) c.in-Ok.ensures.made))

owes : (c : After-refused) → RefusesToEnd c.in-Err.field-0.fault c.args.ending c.self.inside.draining c.args.end (record { draining = c.self.inside.draining; end = Some c.in-Err.field-0.end; ending = Some c.args.ending; done = None })
owes c = record { reader = c.in-Err.field-0.end; drainer = refl; refused = c.in-Err.ensures.refused; hears = c.others_are_heard_first.ensures.refused 1 _ _ _ c.reader_has_its_seat.ensures c.in-Err.ensures.refused }

pub invariant_of-self-in-Err : goal.invariant_of-self-in-Err
invariant_of-self-in-Err c = owing _ c.self.inside.draining c.args.end c.in-Err.field-0.fault c.args.ending c.requires.concluded.0 (owes c) c.requires.legal (rw (← c.self.view_is) at c.requires.concluded.1)

pub returns-in-Err-clause-completes : goal.returns-in-Err-clause-completes
returns-in-Err-clause-completes c = rw (c.refused.ensures, ← c.self.view_is) (owes_by c.in-Err.field-0.fault c.args.ending c.self.inside.draining c.args.end _ (owes c))
