use Rattle.std.proofs.Common.{◌≡◌, ◌≤◌, ◌<◌, ◌∙◌, ◌++◌, ◌∷◌, refl, ap, sym, subst, length, arith, Some, None}
use Rattle.std.proofs.lemmas.List.{length-append}
use Rattle.shared_work.proofs.OrderLemmas.{empties_on, not_empty, zipped_length}
use Rattle.shared_work.proofs.ordering.list_of.Goals as goal

pub push_reserved-requires : goal.push_reserved-requires
push_reserved-requires g c =
    let i = c.loop-slot.invariant in
    let a = zipped_length c.loop-slot.yielded c.loop-slot.list.items i.0.filled in
    let b = length-append c.loop-slot.yielded c.loop-slot.slot-iterator.rest.items in
    let d = ap length i.0.parts in
    let e = ap length c.in-Some.ensures.steps.0 in
    omega (arith, a, b, d, e, i.1, c.loop-slot.list.ok)

pub loop-slot-preserved : goal.loop-slot-preserved
loop-slot-preserved g c =
    let i = c.loop-slot.invariant in
    let is = c.in-Some.ensures.steps.0 ∙ ap (λ o. o ∷ c.next.new.self.rest.items) c.in-Some-slot.is in (
      rw c.in-Some-slot.is (empties_on c.args.slots.items c.loop-slot.yielded c.loop-slot.slot-iterator.rest.items c.next.new.self.rest.items c.loop-slot.list.items c.push_reserved.new.self.items c.in-Some-slot.it i.0 is c.push_reserved.ensures.items),
      rw c.push_reserved.ensures.capacity i.1,
    )

pub unreachable-requires : goal.unreachable-requires
unreachable-requires g c =
    let i = c.loop-slot.invariant in
    let is = c.in-Some.ensures.steps.0 ∙ ap (λ o. o ∷ c.next.new.self.rest.items) c.in-None-slot.is in
    let f = c.requires.full in
    not_empty f.0 c.args.slots.items c.loop-slot.yielded c.loop-slot.slot-iterator.rest.items c.next.new.self.rest.items c.loop-slot.list.items i.0 is f.1 f.2 f.3
