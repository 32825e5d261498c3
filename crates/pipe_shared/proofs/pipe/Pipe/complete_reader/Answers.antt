-- A completion that is tried again leaves the end, and the last one is the one entry.
use Rattle.std.proofs.Common.{refl, Err}
use Rattle.pipe_core.specs.History.{EndReader}
use Rattle.pipe_shared.specs.Waiting.{untried, tried}
use Rattle.pipe_shared.proofs.WaitingLemmas.{called_once}
use Rattle.pipe_shared.proofs.pipe.Pipe.complete_reader.Goals as goal

pub loop-init : goal.loop-init
loop-init g c = record { pipe = c.requires; tried = untried }

pub loop-preserved : goal.loop-preserved
loop-preserved g c =
    let h = c.in-Err in
    record {
      pipe = h.ensures.back.0;
      tried = tried c.loop.end h.field-0.end (Err h.field-0.fault) c.loop.invariant.tried (h.ensures.refused, h.ensures.kept) refl;
    }

pub returns-in-Ok-clause-made : goal.returns-in-Ok-clause-made
returns-in-Ok-clause-made g c = called_once c.args.self.now.name.options (EndReader c.args.code) c.args.r c.loop.end c.in-Ok.field-0-1 c.in-Ok.done c.loop.invariant.tried c.in-Ok.ensures.made
