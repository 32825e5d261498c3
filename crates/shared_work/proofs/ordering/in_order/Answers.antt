use Rattle.std.proofs.Common.{◌≡◌, ◌∙◌, sym}
use Rattle.shared_work.proofs.OrderLemmas.{are_of_place, zipped_length}
use Rattle.shared_work.proofs.ordering.in_order.Goals as goal

pub returns-clause-count : goal.returns-clause-count
returns-clause-count g c = sym (zipped_length c.set_slots.result.items c.list_of.result.items c.list_of.ensures) ∙ c.set_slots.ensures.count

pub returns-clause-places : goal.returns-clause-places
returns-clause-places g c = are_of_place c.args.done.items c.set_slots.result.items c.list_of.result.items c.list_of.ensures c.set_slots.ensures.lie
