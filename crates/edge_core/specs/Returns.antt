-- What a contract sees of the devices of doors in memory that are out or came back.
use Rattle.std.specs.Prelude.{ℕ, ◌==◌, ◌∷◌, List, [], if◌then◌else◌}
use Rattle.edge_core.specs.Device.{SinkState}
use Rattle.edge_core.specs.Doors.{Device, an_inlet, an_outlet}
use Rattle.edge_core.specs.Plan.{raised}
use Rattle.edge_core.specs.MemSource.{mem_source_state}
use Rattle.edge_core.specs.MemSink.{MemSinkState, mem_sink_state}
use Rattle.edge_core.specs.declared.returns.Returned.{Returned}
use Rattle.edge_core.specs.declared.returns.Returned.TheVariants.{Inlet, Outlet}

-- The devices that came back, the sinks among them, how many of either kind are out, and how many came back with a fault.
pub record ReturnsState : Type 0 where
  pub returned : List Device
  pub outlets : List MemSinkState
  pub inlets_out : ℕ
  pub outlets_out : ℕ
  pub faults : ℕ

-- Nothing is out, and nothing came back.
abbrev pub nothing_out : ReturnsState
nothing_out = record { returned = []; outlets = []; inlets_out = 0; outlets_out = 0; faults = 0 }

-- A device that came back, as it was then.
abbrev pub device : Returned → Device
device (Inlet source) = an_inlet (mem_source_state source.value)
device (Outlet sink) = an_outlet (mem_sink_state sink.value)

-- The sinks among some devices.
abbrev pub sinks_among : List Device → List SinkState
sinks_among [] = []
sinks_among (an_inlet source ∷ others) = sinks_among others
sinks_among (an_outlet sink ∷ others) = sink ∷ sinks_among others

-- A count of faulty devices after one with this many faults.
abbrev pub counted : ℕ → ℕ → ℕ
counted faults count = if faults == 0 then count else raised count
