use Rattle.std.proofs.Common.{◌≡◌, ◌≤◌, length}
use Rattle.std.specs.Vec.{vec_len, vec_capacity}
use Rattle.shared_work.proofs.OrderLemmas.{Empties}
use Rattle.shared_work.proofs.ordering.list_of.Given as goal

abbrev pub invariant-loop-slot : goal.invariant-loop-slot
invariant-loop-slot g l = Empties l.fn.slots.items l.yielded l.slot-iterator.rest.items l.list.items × (length l.fn.slots.items ≤ vec_capacity l.list)
