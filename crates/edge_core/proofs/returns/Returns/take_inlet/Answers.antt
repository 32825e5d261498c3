use Rattle.std.proofs.Common.{arith, ap}
use Rattle.edge_core.specs.Returns.{ReturnsState}
use Rattle.edge_core.proofs.ReturnsLemmas.{sinks_among-with_inlet}
use Rattle.edge_core.proofs.returns.Returns.take_inlet.Goals as goal

pub invariant_of-self : goal.invariant_of-self
invariant_of-self c =
    let room = c.self.invariant in
    let pushed = c.push_reserved.ensures in
    (grind (arith, room.0, c.requires, ap (λ (returns : ReturnsState). returns.inlets_out) c.self.view_is, pushed.len, pushed.capacity), room.1, sinks_among-with_inlet _ _ _ _ pushed.items room.2)
