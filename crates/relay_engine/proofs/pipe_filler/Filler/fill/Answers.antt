-- A step of the part that knows no pipe.
use Rattle.std.proofs.Common.{◌∙◌, ap, arith}
use Rattle.relay_engine.specs.WriterEnds.{HasWritten, IsOthers, RefusesWriter, drafting}
use Rattle.relay_engine.proofs.FillingLemmas.{took}
use Rattle.relay_engine.proofs.PipeFillerLemmas.{fills_as, still_filler}
use Rattle.relay_engine.proofs.pipe_filler.Filler.fill.Goals as goal

pub invariant_of-self : goal.invariant_of-self
invariant_of-self g c =
    let t = took HasWritten IsOthers drafting RefusesWriter _ _ _ _ _ _ _ _ _ _ _ (fills_as _ _ _ _ _ _ _ _ c.args.self.now _ _ _ c.self.view_is c.in-Open.is c.self.invariant c.step.ensures.fills) in
    still_filler _ _ _ t.now _ (ap (λ s. s.ending) c.self.view_is ∙ c.requires.taking) c.step.ensures.within (omega (arith, c.step.ensures.limit, c.self.invariant.small)) t.holds

pub returns-clause-fills : goal.returns-clause-fills
returns-clause-fills g c = fills_as _ _ _ _ _ _ _ _ _ _ _ _ c.self.view_is c.in-Open.is c.self.invariant c.step.ensures.fills

pub returns-clause-counted : goal.returns-clause-counted
returns-clause-counted g c = (invariant_of-self g c).taken.counted
