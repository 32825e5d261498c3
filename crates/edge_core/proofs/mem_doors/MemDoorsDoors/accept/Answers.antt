use Rattle.std.proofs.lemmas.List.Elements.{All-drop, All-same}
use Rattle.edge_core.specs.Names.{IsFreshSource}
use Rattle.edge_core.proofs.mem_doors.MemDoorsDoors.accept.Goals as goal

pub invariant_of-self-2 : goal.invariant_of-self-2
invariant_of-self-2 c =
    let fresh = c.self.invariant in
    (fresh.0, All-same IsFreshSource _ _ c.pop_front.ensures.rest (All-drop IsFreshSource 1 _ fresh.1), fresh.2)
