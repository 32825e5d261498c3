use Rattle.std.proofs.Common.{ap, sym, ◌∙◌, subst}
use Rattle.edge_core.specs.Doors.{OpensInlet}
use Rattle.edge_core.specs.MemDoors.{MemDoorsState, mem_doors_state}
use Rattle.edge_core.specs.MemSource.{mem_source_state}
use Rattle.edge_core.specs.Plan.{PlanState}
use Rattle.edge_core.proofs.MemDoorsLemmas.{opens_inlet, untouched_without_inlet}
use Rattle.edge_core.proofs.mem_doors.MemDoorsDoors.inlet.Goals as goal

pub invariant_of-self-2 : goal.invariant_of-self-2
invariant_of-self-2 c = (untouched_without_inlet _ _ _ c.take_inlet.ensures.after c.self.invariant.0, c.self.invariant.1, c.self.invariant.2)

pub returns-clause-opened : goal.returns-clause-opened
returns-clause-opened c =
    let before : MemDoorsState = record {
      names = c.self.inside.names;
      accepted = c.self.inside.accepted.items;
      connected = c.self.inside.connected.items;
      is_listening = c.self.inside.is_listening;
      plan = c.self.inside.plan;
      returns = c.self.inside.returns;
    } in
    let opened = opens_inlet before c.args.name.now c.in-Some.inlet c.take_inlet.new.self c.start_call.new.self c.lend_inlet.new.self
    c.self.invariant.0
    (sym c.take_inlet.ensures.taken ∙ c.in-Some.is)
    c.take_inlet.ensures.after
    (ap (λ (plan : PlanState). plan.faults) c.in-Ok.ensures.counted)
    c.in-Ok-lend_inlet.ensures.lent in
    subst (λ (old : MemDoorsState). OpensInlet (mem_doors_state old) c.args.name.now (mem_source_state c.in-Some.inlet) (mem_doors_state (record before { names = c.take_inlet.new.self; plan = c.start_call.new.self; returns = c.lend_inlet.new.self }))) c.self.view_is opened
