use Rattle.std.proofs.Common.{ap, ◌∙◌, List}
use Rattle.std.proofs.lemmas.List.Elements.{All-same}
use Rattle.edge_core.specs.Names.{IsFreshSink, IsFreshSource}
use Rattle.edge_core.specs.Plan.{plan_of}
use Rattle.edge_core.proofs.MemDoorsLemmas.{unopened_at_first, untouched_at_first}
use Rattle.edge_core.proofs.mem_doors.MemDoors.make.Goals as goal

pub invariant_of-result : goal.invariant_of-result
invariant_of-result c = (
  untouched_at_first _ _ c.in_ok-make.ensures c.requires.named_fresh,
  All-same IsFreshSource _ _ c.from_vec.ensures.items c.requires.accepted_fresh,
  All-same IsFreshSink _ _ c.from_vec-2.ensures.items c.requires.connected_fresh,
)

pub returns-clause-told : goal.returns-clause-told
returns-clause-told c =
    unopened_at_first c.args.named.items c.args.accepted.items c.args.fails.items _ _ c.from_vec-2.result.items _ _ c.in_ok-make.ensures c.from_vec.ensures.items
    (c.new-2.ensures ∙ ap (λ (cuts : List _). plan_of cuts c.args.fails.items) c.new.ensures.items)
    c.new-3.ensures
