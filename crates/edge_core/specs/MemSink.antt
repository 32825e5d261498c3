-- What a contract sees of a sink in memory.
use Rattle.std.specs.Prelude.{ℕ, ◌≡◌, ◌<◌, ◌-◌, List, length, Option, Some}
use Rattle.edge_core.specs.Device.{SinkState}
use Rattle.edge_core.specs.Plan.{PlanState}

-- The bytes that it was given, how many it takes in all, what its writes and flushes are to do, and the name by which doors opened it.
pub record MemSinkState : Type 0 where
  pub written : List ℕ
  pub room : ℕ
  pub plan : PlanState
  pub name : Option (List ℕ)

-- A sink in memory tells its bytes.
abbrev pub mem_sink_state : MemSinkState → SinkState
mem_sink_state sink = record { written = Some sink.written; faults = sink.plan.faults; name = sink.name }

-- A sink once doors have opened it by this name.
abbrev pub opened_by : List ℕ → MemSinkState → MemSinkState
opened_by name sink = record sink { name = Some name }

-- How many bytes it will still take.
abbrev pub room_left : MemSinkState → ℕ
room_left sink = sink.room - length sink.written

-- There are bytes to write, and no room for any.
abbrev pub LacksRoom : MemSinkState → List ℕ → Type 0
LacksRoom sink piece = (0 < length piece) × (room_left sink ≡ 0)
