use Rattle.std.proofs.Common.{◌≡◌, ◌≤◌, ◌<◌, ◌∙◌, ◌++◌, ◌∷◌, refl, ap, sym, subst, length, arith}
use Rattle.shared_work.proofs.OrderLemmas.{place_within, sets_on}
use Rattle.shared_work.proofs.ordering.set_slots.Goals as goal

pub put-requires : goal.put-requires
put-requires g c =
    let are = c.loop-placed.invariant in
    let is = c.in-Some.ensures.steps.0 in
    let within = place_within c.args.done.items c.loop-placed.yielded c.next.new.self.rest.items c.in-Some.placed (ap (λ l. c.loop-placed.yielded ++ l) (sym is) ∙ are.parts) c.requires.once in
    omega (arith, within.0, are.long)

pub loop-placed-preserved : goal.loop-placed-preserved
loop-placed-preserved g c =
    rw c.put.ensures (sets_on c.args.done.items c.loop-placed.yielded c.loop-placed.placed-iterator.rest.items c.next.new.self.rest.items c.in-Some.placed c.loop-placed.slots.items c.in-Some.placed.it c.in-Some.placed.place c.loop-placed.invariant c.in-Some.ensures.steps.0 refl refl c.requires.once)
