-- The pipe is closed, so the report is that of a run.
use Rattle.std.proofs.Common.{arith}
use Rattle.relay_top.proofs.CommandLemmas.{the_report}
use Rattle.relay_top.proofs.pumping.pump_and_settle.Goals as goal

pub settle-requires-clause-out : goal.settle-requires-clause-out
settle-requires-clause-out g c = λ id. let more = c.in_ok-done.ensures.rented.out id in omega (arith, more)

pub returns-clause-reported : goal.returns-clause-reported
returns-clause-reported g c =
    let done = c.in_ok-done.done in
    the_report c.args.job.now c.settle.result done.report _ _ _ _ c.settle.ensures.report
    (c.settled_pump_is_reported.ensures c.args.job.now done.report done.writer done.reader done.canceller _ c.settle.ensures.closes.0 _ _ _ _ c.requires.limit c.in_ok-done.ensures.pumped c.settle.ensures.closes.1)
