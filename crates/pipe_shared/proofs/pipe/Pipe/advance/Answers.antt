-- An advance that is tried again leaves the lend, and the last one is the one entry.
use Rattle.std.proofs.Common.{refl, ◌∙◌, Err}
use Rattle.pipe_core.specs.History.{Advance}
use Rattle.pipe_shared.specs.Waiting.{untried, tried}
use Rattle.pipe_shared.proofs.WaitingLemmas.{called_once}
use Rattle.pipe_shared.proofs.pipe.Pipe.advance.Goals as goal

pub loop-init : goal.loop-init
loop-init g c = record { pipe = c.requires.pipe; lent = refl; tried = untried }

pub loop-preserved : goal.loop-preserved
loop-preserved g c =
    let h = c.in-Err in
    record {
      pipe = h.ensures.pipe.0;
      lent = h.ensures.kept ∙ c.loop.invariant.lent;
      tried = tried c.loop.r c.try_advance.new.r (Err h.field-0) c.loop.invariant.tried (h.ensures.refused, h.ensures.kept) refl;
    }

pub returns-in-Ok-clause-made : goal.returns-in-Ok-clause-made
returns-in-Ok-clause-made g c =
    called_once c.args.self.now.name.options (Advance c.args.c c.args.e) c.args.r.now c.loop.r c.in-Ok.field-0 c.try_advance.new.r.seat c.loop.invariant.tried c.in-Ok.ensures.made
