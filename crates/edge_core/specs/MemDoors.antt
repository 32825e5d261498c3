-- What a contract sees of doors in memory.
use Rattle.std.specs.Prelude.{ℕ, ◌+◌, Bool, true, false, not, ◌&&◌, List, [], ◌∷◌, map, Some, string_bytes, String}
use Rattle.std.specs.declared.alloc.Global.{Global}
use Rattle.std.specs.List.{list_any}
use Rattle.std.specs.Str.{bytes_eq}
use Rattle.edge_core.specs.Doors.{DoorsState, Named}
use Rattle.edge_core.specs.MemSource.{MemSourceState}
use Rattle.edge_core.specs.MemSink.{MemSinkState}
use Rattle.edge_core.specs.Names.{NamedState, IsFreshSource, IsFreshSink}
use Rattle.edge_core.specs.Plan.{PlanState, after_call, after_fault}
use Rattle.edge_core.specs.Returns.{ReturnsState}
use Rattle.edge_core.specs.declared.doors.DoorError.{DoorError}
use Rattle.edge_core.specs.declared.doors.DoorError.TheVariants.{Failed, OutOfMemory}

-- The names with the devices that are still to be taken, the sources and sinks that connections are still to have,
-- whether there are connections to accept, which openings are to fail, and what is out or came back.
pub record MemDoorsState : Type 0 where
  pub names : List NamedState
  pub accepted : List MemSourceState
  pub connected : List MemSinkState
  pub is_listening : Bool
  pub plan : PlanState
  pub returns : ReturnsState

-- The bytes that the source of a name had at first.
abbrev pub name_told : NamedState → Named
name_told known = record { name = known.name; content = known.content }

-- Doors in memory tell their bytes. The calls that their plan counts as failed are the refusals.
abbrev pub mem_doors_state : MemDoorsState → DoorsState
mem_doors_state doors = record {
  refusals = doors.plan.faults;
  faults = doors.returns.faults;
  is_listening = doors.is_listening;
  inlets_out = doors.returns.inlets_out;
  outlets_out = doors.returns.outlets_out;
  told = Some (record {
    named = map name_told doors.names;
    incoming = map (λ source. source.left) doors.accepted;
    returned = doors.returns.returned;
  });
}

-- The plan after an opening that didn't succeed. For want of memory none is counted as refused.
abbrev pub plan_after : DoorError → PlanState → PlanState
plan_after Failed plan = after_fault plan
plan_after OutOfMemory plan = after_call plan

abbrev pub with_inlet_out : ReturnsState → ReturnsState
with_inlet_out returns = record returns { inlets_out = returns.inlets_out + 1 }

abbrev pub with_outlet_out : ReturnsState → ReturnsState
with_outlet_out returns = record returns { outlets_out = returns.outlets_out + 1 }

-- The devices of a name are as they were made.
abbrev pub IsFresh : (String Global × MemSourceState × MemSinkState) → Type 0
IsFresh devices = IsFreshSource devices.1 × IsFreshSink devices.2

abbrev pub name_of : (String Global × MemSourceState × MemSinkState) → List ℕ
name_of devices = string_bytes devices.0

-- Doors before the first call: nothing was refused, is out or came back, and the bytes are those of these sources.
abbrev pub unopened : List (String Global × MemSourceState × MemSinkState) → List MemSourceState → DoorsState
unopened devices accepted = record {
  refusals = 0;
  faults = 0;
  is_listening = false;
  inlets_out = 0;
  outlets_out = 0;
  told = Some (record {
    named = map (λ device. record { name = name_of device; content = device.1.left }) devices;
    incoming = map (λ source. source.left) accepted;
    returned = [];
  });
}

-- No two of these names are the same.
abbrev pub all_differ : List (List ℕ) → Bool
all_differ [] = true
all_differ (name ∷ names) = not (list_any (bytes_eq name) names) && all_differ names
