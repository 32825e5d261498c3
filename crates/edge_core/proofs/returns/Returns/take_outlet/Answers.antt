use Rattle.std.proofs.Common.{arith, ap}
use Rattle.edge_core.specs.Returns.{ReturnsState}
use Rattle.edge_core.proofs.ReturnsLemmas.{sinks_among-with_outlet}
use Rattle.edge_core.proofs.returns.Returns.take_outlet.Goals as goal

pub invariant_of-self : goal.invariant_of-self
invariant_of-self c =
    let room = c.self.invariant in
    let pushed = c.push_reserved.ensures in
    let kept = c.push_reserved-2.ensures in
    let out = ap (λ (returns : ReturnsState). returns.outlets_out) c.self.view_is in (
      grind (arith, room.0, c.requires, out, pushed.len, pushed.capacity),
      grind (arith, room.1, c.requires, out, kept.len, kept.capacity),
      sinks_among-with_outlet _ _ _ _ _ _ c.of.ensures pushed.items kept.items room.2,
    )
