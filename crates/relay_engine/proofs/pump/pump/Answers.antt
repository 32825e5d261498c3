-- Step by step.
use Rattle.std.proofs.Common.{◌∙◌, refl, ap}
use Rattle.pipe_core.specs.Progress.{total}
use Rattle.pipe_turns.specs.Name.{Name}
use Rattle.relay_engine.proofs.PumpLemmas.{draft_same, idle, lends_none, made_same, moved_less, moved_on, never_refused, rest_less, rest_open, starts}
use Rattle.relay_engine.proofs.PumpFillLemmas.{ended_alike, filled, finished, rest_taken, stopped}
use Rattle.relay_engine.proofs.pump.pump.Goals as goal

pub loop-filling-init : goal.loop-filling-init
loop-filling-init g c = record {
  pumps = starts _ _ _ _ _ _ c.new-filling.ensures c.new-draining.ensures c.requires.stands c.requires.draft c.requires.room c.requires.thresholds c.requires.segment;
  attended = rw (c.requires.stands.runs.marks.gone) refl;
  no_lend = c.requires.stands.runs.marks.lent;
  made = refl;
}

pub loop-filling-smaller-in-Ok-Moved : goal.loop-filling-smaller-in-Ok-Moved
loop-filling-smaller-in-Ok-Moved g c =
    moved_less _ _ _ _ _ _ c.loop-filling.filling _ c.step.new.self _ c.step.new.end c.loop-filling.ending c.in-Ok-Moved.field-0-0 c.in-Ok-Moved.ensures.may c.loop-filling.invariant.pumps (rw c.in-Ok-Moved.field-0-is at c.in-Ok-Moved.ensures.step)

pub loop-filling-preserved-in-Ok-Moved : goal.loop-filling-preserved-in-Ok-Moved
loop-filling-preserved-in-Ok-Moved g c =
    let once = rw c.in-Ok-Moved.field-0-is at c.in-Ok-Moved.ensures.step in
    let on = moved_on _ _ _ _ _ _ c.loop-filling.filling _ c.step.new.self _ c.step.new.end c.loop-filling.ending c.in-Ok-Moved.field-0-0 c.in-Ok-Moved.ensures.may c.loop-filling.invariant.pumps once in
    record { pumps = on; attended = c.in-Ok-Moved.ensures.may; no_lend = lends_none c.step.new.self c.step.new.end on.fresh once.lends; made = made_same c.loop-filling.pipe c.step.new.end once.kept ∙ c.loop-filling.invariant.made }

pub fill_once-ending-requires-clause-open : goal.fill_once-ending-requires-clause-open
fill_once-ending-requires-clause-open g c =
    rw (rest_open _ _ _ _ _ _ _ _ _ (idle _ _ _ _ _ c.loop-filling.filling _ c.step.new.self _ c.step.new.end c.loop-filling.ending c.in-Ok-Idle.field-0-0 _ c.in-Ok-Idle.ensures.may c.loop-filling.invariant.pumps (rw c.in-Ok-Idle.field-0-is at c.in-Ok-Idle.ensures.step))) refl

pub fill_once-ending-requires-clause-holds : goal.fill_once-ending-requires-clause-holds
fill_once-ending-requires-clause-holds g c =
    let rest = idle _ _ _ _ _ c.loop-filling.filling _ c.step.new.self _ c.step.new.end c.loop-filling.ending c.in-Ok-Idle.field-0-0 _ c.in-Ok-Idle.ensures.may c.loop-filling.invariant.pumps (rw c.in-Ok-Idle.field-0-is at c.in-Ok-Idle.ensures.step) in
    (rest.on.h, total rest.on.h, rest_taken _ _ _ _ _ _ _ _ _ rest)

pub loop-filling-smaller : goal.loop-filling-smaller
loop-filling-smaller g c =
    let e = c.fill_once-ending.ensures in
    let rest = idle _ _ _ _ _ c.loop-filling.filling _ c.step.new.self _ c.step.new.end c.loop-filling.ending c.in-Ok-Idle.field-0-0 _ c.in-Ok-Idle.ensures.may c.loop-filling.invariant.pumps (rw c.in-Ok-Idle.field-0-is at c.in-Ok-Idle.ensures.step) in
    let full = filled _ _ _ _ _ _ _ _ _ _ _ _ c.fill_once-ending.result c.never_both.ensures.any rest (e.fills rest.on.h (total rest.on.h) (rest_taken _ _ _ _ _ _ _ _ _ rest)) (record { options = ap (λ (m : Name). m.options) e.made; draft = e.draft; limit = e.limit; within = e.within; one_read = e.one_read }) in
    rest_less c.loop-filling.filling c.loop-filling.pipe c.loop-filling.ending _ rest.none_yet full.less

pub loop-filling-preserved : goal.loop-filling-preserved
loop-filling-preserved g c =
    let e = c.fill_once-ending.ensures in
    let rest = idle _ _ _ _ _ c.loop-filling.filling _ c.step.new.self _ c.step.new.end c.loop-filling.ending c.in-Ok-Idle.field-0-0 _ c.in-Ok-Idle.ensures.may c.loop-filling.invariant.pumps (rw c.in-Ok-Idle.field-0-is at c.in-Ok-Idle.ensures.step) in
    let full = filled _ _ _ _ _ _ _ _ _ _ _ _ c.fill_once-ending.result c.never_both.ensures.any rest (e.fills rest.on.h (total rest.on.h) (rest_taken _ _ _ _ _ _ _ _ _ rest)) (record { options = ap (λ (m : Name). m.options) e.made; draft = e.draft; limit = e.limit; within = e.within; one_read = e.one_read }) in
    let once = rw c.in-Ok-Idle.field-0-is at c.in-Ok-Idle.ensures.step in
    record {
      pumps = full.on;
      attended = rw (e.gone) c.in-Ok-Idle.ensures.may;
      no_lend = e.lent ∙ lends_none c.step.new.self c.step.new.end rest.on.fresh once.lends;
      made = e.made ∙ made_same c.loop-filling.pipe c.step.new.end once.kept ∙ c.loop-filling.invariant.made;
    }

pub end_both-requires-clause-settled : goal.end_both-requires-clause-settled
end_both-requires-clause-settled g c =
    draft_same c.loop-filling.pipe c.step.new.end (rw c.in-Ok-Ended.field-0-is at c.in-Ok-Ended.ensures.step).kept ∙ c.loop-filling.invariant.pumps.draft

pub end_both-requires-clause-ended : goal.end_both-requires-clause-ended
end_both-requires-clause-ended g c =
    ended_alike _ _ _ _ _ _ c.loop-filling.filling _ c.step.new.self _ c.step.new.end c.loop-filling.ending c.in-Ok-Ended.end c.loop-filling.invariant.pumps (rw c.in-Ok-Ended.field-0-is at c.in-Ok-Ended.ensures.step)

pub returns-in-Ok-Ended-clause-made : goal.returns-in-Ok-Ended-clause-made
returns-in-Ok-Ended-clause-made g c =
    c.end_both.ensures.made ∙ made_same c.loop-filling.pipe c.step.new.end (rw c.in-Ok-Ended.field-0-is at c.in-Ok-Ended.ensures.step).kept ∙ c.loop-filling.invariant.made

pub returns-in-Ok-Ended-clause-reported : goal.returns-in-Ok-Ended-clause-reported
returns-in-Ok-Ended-clause-reported g c =
    rw (c.outcome_of.ensures, c.unwrap_or-taking.ensures, c.code.ensures, c.frames.ensures, c.taken.ensures.taken, c.written.ensures)
    (finished _ _ _ _ _ _ c.loop-filling.filling _ c.step.new.self _ c.step.new.end c.loop-filling.ending c.in-Ok-Ended.end c.requires.range.limit c.loop-filling.invariant.pumps (rw c.in-Ok-Ended.field-0-is at c.in-Ok-Ended.ensures.step))

pub returns-in-Ok-Ended-clause-in_time : goal.returns-in-Ok-Ended-clause-in_time
returns-in-Ok-Ended-clause-in_time g c = stopped _ _ _ _ _ _ _ _ _ c.in-Ok-Ended.end c.loop-filling.invariant.pumps

pub unreachable-requires : goal.unreachable-requires
unreachable-requires g c = never_refused _ _ _ _ _ _ c.loop-filling.filling _ c.step.new.self _ c.step.new.end c.loop-filling.ending c.in-Err.field-0 c.loop-filling.invariant.pumps c.in-Err.ensures.step
