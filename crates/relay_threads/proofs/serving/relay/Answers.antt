-- The law, of the two calls.
use Rattle.std.proofs.Common.{arith}
use Rattle.relay_threads.proofs.serving.relay.Goals as goal

pub settle-requires-clause-out : goal.settle-requires-clause-out
settle-requires-clause-out g c = λ id. let more = c.in_ok-done.ensures.rented.out id in omega (arith, more)

pub returns-clause-finishes : goal.returns-clause-finishes
returns-clause-finishes g c = rw c.settle.ensures.report (c.settled_pump_is_reported.ensures _ _ _ _ c.in_ok-done.done.canceller _ c.settle.ensures.closes.0 _ _ _ _ c.requires.range.limit c.in_ok-done.ensures.pumped c.settle.ensures.closes.1)

pub returns-clause-books : goal.returns-clause-books
returns-clause-books g c = c.nothing_is_out.ensures _ _ _ _ c.in_ok-done.ensures.rented c.settle.ensures.given_back
