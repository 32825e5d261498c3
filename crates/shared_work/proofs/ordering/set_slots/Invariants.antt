use Rattle.shared_work.proofs.OrderLemmas.{AreSet}
use Rattle.shared_work.proofs.ordering.set_slots.Given as goal

abbrev pub invariant-loop-placed : goal.invariant-loop-placed
invariant-loop-placed g l = AreSet l.fn.done.items l.yielded l.placed-iterator.rest.items l.slots.items
