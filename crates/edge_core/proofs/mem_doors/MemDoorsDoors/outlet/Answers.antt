use Rattle.std.proofs.Common.{ℕ, List, Option, ap, sym, ◌∙◌, subst}
use Rattle.edge_core.specs.Doors.{OpensOutlet}
use Rattle.edge_core.specs.MemDoors.{MemDoorsState, mem_doors_state}
use Rattle.edge_core.specs.MemSink.{mem_sink_state}
use Rattle.edge_core.specs.Plan.{PlanState}
use Rattle.edge_core.proofs.MemDoorsLemmas.{opens_outlet, untouched_without_outlet}
use Rattle.edge_core.proofs.mem_doors.MemDoorsDoors.outlet.Goals as goal

pub invariant_of-self-2 : goal.invariant_of-self-2
invariant_of-self-2 c = (untouched_without_outlet _ _ _ c.take_outlet.ensures.after c.self.invariant.0, c.self.invariant.1, c.self.invariant.2)

pub returns-clause-opened : goal.returns-clause-opened
returns-clause-opened c =
    let before : MemDoorsState = record {
      names = c.self.inside.names;
      accepted = c.self.inside.accepted.items;
      connected = c.self.inside.connected.items;
      is_listening = c.self.inside.is_listening;
      plan = c.self.inside.plan;
      returns = c.self.inside.returns;
    } in
    let opened = opens_outlet before c.args.name.now c.in-Some.outlet c.set_name.new.self c.take_outlet.new.self c.start_call.new.self c.lend_outlet.new.self
    c.self.invariant.0
    (sym c.take_outlet.ensures.taken ∙ c.in-Some.is)
    c.take_outlet.ensures.after
    (ap (λ (plan : PlanState). plan.faults) c.in-Ok.ensures.counted)
    c.in-Ok-lend_outlet.ensures.lent
    (c.set_name.ensures ∙ ap (λ (o : Option (List ℕ)). record c.in-Some.outlet { name = o }) c.in-Ok-seen.ensures) in
    subst (λ (old : MemDoorsState). OpensOutlet (mem_doors_state old) c.args.name.now (mem_sink_state c.set_name.new.self) (mem_doors_state (record before { names = c.take_outlet.new.self; plan = c.start_call.new.self; returns = c.lend_outlet.new.self }))) c.self.view_is opened
