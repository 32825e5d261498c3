use Rattle.std.proofs.lemmas.List.Elements.{All-drop, All-same}
use Rattle.edge_core.specs.Names.{IsFreshSink}
use Rattle.edge_core.proofs.mem_doors.MemDoorsDoors.connect.Goals as goal

pub invariant_of-self-2 : goal.invariant_of-self-2
invariant_of-self-2 c =
    let fresh = c.self.invariant in
    (fresh.0, fresh.1, All-same IsFreshSink _ _ c.pop_front.ensures.rest (All-drop IsFreshSink 1 _ fresh.2))
