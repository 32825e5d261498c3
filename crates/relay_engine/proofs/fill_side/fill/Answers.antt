-- Steps, one behind the other, until the last one.
use Rattle.relay_engine.proofs.FillSideLemmas.{begins, filled_all, fills_on}
use Rattle.relay_engine.proofs.fill_side.fill.Goals as goal

pub loop-init : goal.loop-init
loop-init g c = begins _ c.args.filler _ c.requires.new c.requires.pipe

pub loop-preserved-in-Moved : goal.loop-preserved-in-Moved
loop-preserved-in-Moved g c = let e = c.in-Moved.ensures in fills_on _ _ _ c.loop.filler c.step.new.self _ _ _ c.loop.invariant e.pipe e.done e.limit e.counted e.within e.steps

pub loop-preserved-in-Paused : goal.loop-preserved-in-Paused
loop-preserved-in-Paused g c = let e = c.in-Paused.ensures in fills_on _ _ _ c.loop.filler c.step.new.self _ _ _ c.loop.invariant e.pipe e.done e.limit e.counted e.within e.steps

pub loop-preserved-in-Full : goal.loop-preserved-in-Full
loop-preserved-in-Full g c = let e = c.in-Full.ensures in fills_on _ _ _ c.loop.filler c.step.new.self _ _ _ c.loop.invariant e.pipe e.done e.limit e.counted e.within e.steps

pub loop-preserved-in-Busy : goal.loop-preserved-in-Busy
loop-preserved-in-Busy g c = let e = c.in-Busy.ensures in fills_on _ _ _ c.loop.filler c.step.new.self _ _ _ c.loop.invariant e.pipe e.done e.limit e.counted e.within e.steps

pub loop-preserved : goal.loop-preserved
loop-preserved g c = let e = c.in-Worn.ensures in fills_on _ _ _ c.loop.filler c.step.new.self _ _ _ c.loop.invariant e.pipe e.done e.limit e.counted e.within e.steps

pub returns-in-Done-clause-filled : goal.returns-in-Done-clause-filled
returns-in-Done-clause-filled g c =
    let e = c.in-Done.ensures in
    filled_all _ _ _ c.loop.filler c.step.new.self _ _ _ _ _ c.loop.invariant c.finish.ensures c.taken-taken.ensures.counted c.taken-taken.ensures.within e.limit e.counted e.within e.steps
