use Rattle.std.proofs.Common.{sym, ◌∙◌}
use Rattle.relay_engine.proofs.LaterLemmas.{none_of}
use Rattle.relay_engine.proofs.PipeDrainerLemmas.{begins, still_going, wrote_all, wrote_on}
use Rattle.relay_engine.proofs.pipe_drainer.drain.Goals as goal

pub loop-init : goal.loop-init
loop-init g c = record { pipe = c.requires.pipe; written = begins c.args.pipe.now c.args.drainer _ c.requires.new c.drainer_has_written.ensures c.requires.pipe }

pub returns-in-Some-done_by-clause-drained : goal.returns-in-Some-done_by-clause-drained
returns-in-Some-done_by-clause-drained g c =
    wrote_all _ _ c.loop.drainer c.step-step.new.self _ _ c.step-step.result c.in-Some-done_by.end c.finish.result _ _ (sym c.done_by.ensures ∙ c.in-Some-done_by.is) (sym c.finish.ensures) c.frames-frames.ensures c.written-written.ensures c.loop.invariant.written c.step-step.ensures.step

pub loop-preserved : goal.loop-preserved
loop-preserved g c =
    let more = sym c.done_by.ensures ∙ none_of c.done_by.result c.in_default.not-Some in record {
      pipe = still_going c.step-step.new.self c.step-step.result c.args.pipe.now c.step-step.ensures.pipe more;
      written = wrote_on _ _ c.loop.drainer c.step-step.new.self _ _ c.step-step.result c.loop.invariant.written c.step-step.ensures.step more;
    }
