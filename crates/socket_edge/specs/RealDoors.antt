-- What a contract sees of doors over files and TCP streams.
use Rattle.std.specs.Prelude.{ℕ, ◌≡◌, ◌^◌, ◌-◌, List, Option, None, is_some, Result, IsErrOf}
use Rattle.edge_core.specs.Doors.{DoorsState}
use Rattle.edge_core.specs.declared.doors.DoorError.{DoorError}
use Rattle.edge_core.specs.declared.doors.DoorError.TheVariants.{Failed}
use Rattle.socket_edge.specs.declared.doors.RealDoors.{RealDoors}
use Rattle.socket_edge.specs.declared.endpoint.Endpoint.{Endpoint}

-- They tell no bytes, and listen where they have a listener.
abbrev pub real_doors_state : {R : Type 0} → RealDoors R → DoorsState
real_doors_state doors = record {
  refusals = doors.refusals;
  faults = doors.faults;
  is_listening = is_some doors.listener;
  inlets_out = doors.inlets_out;
  outlets_out = doors.outlets_out;
  told = None;
}

-- A file and a stream tell no bytes.
abbrev pub tells_nothing : Endpoint → Option (List ℕ)
tells_nothing _ = None

-- With as many devices out as can be counted, an opening fails.
abbrev pub FailsWhereFull : {D : Type 0} → ℕ → Result D DoorError → Type 0
FailsWhereFull out result = out ≡ 2 ^ 64 - 1 → IsErrOf result Failed
