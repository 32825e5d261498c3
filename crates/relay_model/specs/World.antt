-- What a command has to do with.
use Rattle.std.specs.Prelude.{ℕ, ◌≡◌, List}
use Rattle.edge_core.specs.Device.{SourceState, SinkState}
use Rattle.edge_core.specs.Doors.{DoorsState}
use Rattle.relay_model.specs.Lines.{IsWritten}

-- Its source, its doors, its sink, and the sink to which it tells of faults.
pub record World : Type 0 where
  pub source : SourceState
  pub doors : DoorsState
  pub sink : SinkState
  pub faults : SinkState

abbrev pub world : SourceState → DoorsState → SinkState → SinkState → World
world source doors sink faults = record { source = source; doors = doors; sink = sink; faults = faults }

-- The source and the doors are as they were.
pub record KeepsInputs (was is : World) : Type 0 where
  pub source : is.source ≡ was.source
  pub doors : is.doors ≡ was.doors

-- So are the source and the sink, and this line was told, or a front of it where a write failed.
pub record Tells (line : List ℕ) (was is : World) : Type 0 where
  pub source : is.source ≡ was.source
  pub sink : is.sink ≡ was.sink
  pub told : IsWritten line was.faults is.faults

-- Nothing else has changed.
pub record TellsOnly (line : List ℕ) (was is : World) : Type 0 where
  pub tells : Tells line was is
  pub doors : is.doors ≡ was.doors
