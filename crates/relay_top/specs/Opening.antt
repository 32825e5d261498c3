-- What opening the devices of names does to doors, where not all are opened.
use Rattle.std.specs.Prelude.{ℕ, ⊤, ◌≡◌, ◌<◌, List, [], length, Option, IfSome}
use Rattle.edge_core.specs.Device.{SourceState, SinkState, HasRisen}
use Rattle.edge_core.specs.Doors.{DoorsState}
use Rattle.edge_core.specs.declared.doors.DoorError.{DoorError}
use Rattle.edge_core.specs.declared.doors.DoorError.TheVariants.{Failed, OutOfMemory}
use Rattle.relay_model.specs.declared.status.Status.{Status}
use Rattle.relay_model.specs.declared.status.Status.TheVariants as exit
use Rattle.relay_model.specs.Devices.{Devices, with_unused}
use Rattle.relay_model.specs.Lines.{IsWritten, door_line, memory_line}
use Rattle.relay_top.specs.Batch.{AreUnused, IsFreshInletOf, unused}

-- An opening didn't succeed, and what was open came back unused.
abbrev pub FailsBehind : DoorError → List Devices → Option SourceState → DoorsState → DoorsState → Type 0
FailsBehind Failed opened alone before after =
    HasRisen before.refusals after.refusals × (after ≡ record (with_unused (unused opened alone) before) { refusals = after.refusals })
FailsBehind OutOfMemory opened alone before after = after ≡ with_unused (unused opened alone) before

-- A name wasn't opened. Its source was given back, where that was open.
pub record RefusesOne (name : List ℕ) (error : DoorError) (before after : DoorsState) : Type 0 where
  pub alone : Option SourceState
  pub fresh : IfSome alone (λ inlet. IsFreshInletOf before.told name inlet)
  pub fails : FailsBehind error [] alone before after

-- This holds, unless there was no memory.
abbrev pub IfFailed : DoorError → Type 0 → Type 0
IfFailed Failed P = P
IfFailed OutOfMemory P = ⊤

-- The devices of these names were to be opened. That ended so behind as many names, whose devices were given back.
pub record OpensNotAll (names : List (List ℕ)) (error : DoorError) (count : ℕ) (before after : DoorsState) : Type 0 where
  pub opened : List Devices
  pub alone : Option SourceState
  pub unused : AreUnused before.told names opened alone
  pub behind : count ≡ length opened
  pub some : IfFailed error (length opened < length names)
  pub fails : FailsBehind error opened alone before after

-- What is answered where a name wasn't opened, whose word has this index, and the line that is told of it.
abbrev pub TellsRefusal : DoorError → ℕ → Status → SinkState → SinkState → Type 0
TellsRefusal Failed word status faults_before faults_after = (status ≡ exit.DoorFault) × IsWritten (door_line word) faults_before faults_after
TellsRefusal OutOfMemory word status faults_before faults_after = (status ≡ exit.OutOfMemory) × IsWritten memory_line faults_before faults_after
