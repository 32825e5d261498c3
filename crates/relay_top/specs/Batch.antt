-- What a batch does: to the doors, to its sink and to the sink for faults.
use Rattle.std.specs.Prelude.{ℕ, ◌≡◌, ◌≢◌, ◌<◌, ◌≤◌, ◌+◌, true, ◌⊎◌, List, [], ◌∷◌, ◌++◌, length, Option, Some, None, IfSome, IfOk}
use Rattle.std.specs.List.{All, AllZip, flat_map}
use Rattle.edge_core.specs.Device.{SourceState, SinkState, HasNotRisen, HasRisen, Takes}
use Rattle.edge_core.specs.Doors.{Device, DoorsState, Named, Told, an_inlet, content_of}
use Rattle.frame_grammar.specs.declared.job.Job.{Job}
use Rattle.frame_grammar.specs.Job.{translation}
use Rattle.frame_model.specs.Cut.{End}
use Rattle.relay_model.specs.declared.status.Status.{Status}
use Rattle.relay_model.specs.declared.status.Status.TheVariants as exit
use Rattle.relay_model.specs.Answers.{IsRelayedAlone, Relayed, Sums, answer_lines, answers, returned, status_of_answer}
use Rattle.relay_model.specs.Devices.{AreFresh, Devices, HandsBack, IsFreshInlet, both, with_out, with_unused}
use Rattle.relay_model.specs.Lines.{door_line, memory_line}
use Rattle.relay_model.specs.Run.{RelaysAll, TranslatesAll}
use Rattle.relay_model.specs.World.{Tells, World}
use Rattle.relay_top.specs.Opened.{HasRelayedWhole, IsLawful, RelaysOpened, TranslatesOpened}

-- The bytes that doors tell of a name.
abbrev pub bytes_of : List ℕ → Told → Option (List ℕ)
bytes_of name told = content_of name told.named

-- The source of a name is as it was opened.
abbrev pub IsFreshInletOf : Option Told → List ℕ → SourceState → Type 0
IsFreshInletOf told name inlet = IsFreshInlet told (bytes_of name) inlet

-- So are both of its devices, of which the sink is its own.
abbrev pub AreFreshOf : Option Told → List ℕ → Devices → Type 0
AreFreshOf told name devices = AreFresh told (bytes_of name) name devices

-- A name was relayed.
abbrev pub IsRelayedOf : Option Told → Job → List ℕ → Relayed → Type 0
IsRelayedOf told job name relayed = IsRelayedAlone told job (bytes_of name) name relayed

-- ---- names whose devices are given back unused

-- P holds of the first.
abbrev pub HasFirst : (List ℕ → Type 0) → List (List ℕ) → Type 0
HasFirst P [] = ⊥
HasFirst P (name ∷ names) = P name

-- These are the devices of the first names, as they were opened, and perhaps the source alone of the next one.
pub record AreUnused (told : Option Told) (names : List (List ℕ)) (opened : List Devices) (alone : Option SourceState) : Type 0 where
  pub done : List (List ℕ)
  pub rest : List (List ℕ)
  pub parts : names ≡ done ++ rest
  pub fresh : AllZip (AreFreshOf told) done opened
  pub next : IfSome alone (λ inlet. HasFirst (λ name. IsFreshInletOf told name inlet) rest)

-- They are given back in this order.
abbrev pub unused : List Devices → Option SourceState → List Device
unused opened None = flat_map both opened
unused opened (Some inlet) = an_inlet inlet ∷ flat_map both opened

-- ---- the command

-- What a batch of these names, of which the first is the word of that index, answers and does.
pub data Batches (names : List (List ℕ)) (first : ℕ) (job : Job) (status : Status) (was is : World) : Type 0 where
  -- An opening was refused. What was open is given back, nothing was read or written, and the line has the word of the name.
  IsRefused : (opened : List Devices) (alone : Option SourceState) → AreUnused was.doors.told names opened alone → length opened < length names
      → HasRisen was.doors.refusals is.doors.refusals → is.doors ≡ record (with_unused (unused opened alone) was.doors) { refusals = is.doors.refusals }
      → status ≡ exit.DoorFault → Tells (door_line (first + length opened)) was is
      → Batches names first job status was is
  -- There was no memory. What was open, perhaps all of it, is given back, and nothing was read or written.
  HasNoMemory : (opened : List Devices) (alone : Option SourceState) → AreUnused was.doors.told names opened alone
      → is.doors ≡ with_unused (unused opened alone) was.doors
      → status ≡ exit.OutOfMemory → Tells memory_line was is
      → Batches names first job status was is
  -- There was no memory once all was open. The devices are gone: they stay counted as out, and nothing is said of what they read or wrote.
  HasLost : is.doors ≡ with_out (length names) was.doors
      → status ≡ exit.OutOfMemory → Tells memory_line was is
      → Batches names first job status was is
  -- Each name was relayed, or had no memory; all devices came back, and the lines tell of each name, or a front of them was written.
  HasRelayed : (relayed : List Relayed) → AllZip (IsRelayedOf was.doors.told job) names relayed
      → HandsBack (returned relayed) was.doors is.doors → is.source ≡ was.source
      → Sums names (answers relayed) status was.sink is.sink was.faults is.faults
      → Batches names first job status was is

-- ---- what follows

-- The sink of a name gained the translation of all that its source held, where neither failed.
abbrev pub TranslatesName : Option Told → Job → List ℕ → Relayed → Type 0
TranslatesName told job name relayed = TranslatesOpened told job (bytes_of name) name relayed

-- So it is with each name, and then its devices came back, unless an opening was refused or there was no memory.
abbrev pub TranslatesNames : List (List ℕ) → Job → Status → DoorsState → DoorsState → Type 0
TranslatesNames names job status before after =
    status ≢ exit.DoorFault → status ≢ exit.OutOfMemory → (relayed : List Relayed) × AllZip (TranslatesName before.told job) names relayed × HandsBack (returned relayed) before after

-- All that the source of a name held was lawful, and all of it was relayed.
abbrev pub RelaysName : Option Told → Job → List ℕ → Relayed → Type 0
RelaysName told job name relayed = RelaysOpened told job (bytes_of name) name relayed

-- So it is with each name.
abbrev pub RelaysEach : List (List ℕ) → Job → DoorsState → DoorsState → Type 0
RelaysEach names job before after = (relayed : List Relayed) × AllZip (RelaysName before.told job) names relayed × HandsBack (returned relayed) before after

-- A name was relayed, all that it has.
abbrev pub IsRelayedWhole : Told → Job → List ℕ → Relayed → Type 0
IsRelayedWhole told job name relayed = IsRelayedOf (Some told) job name relayed × HasRelayedWhole job (content_of name told.named) relayed

-- Each name was relayed whole, all devices came back, and the lines say so.
pub record RelaysNames (names : List (List ℕ)) (job : Job) (told : Told) (before after : DoorsState) (sink_before sink_after : SinkState) : Type 0 where
  pub relayed : List Relayed
  pub each : AllZip (IsRelayedWhole told job) names relayed
  pub back : HandsBack (returned relayed) before after
  pub lines : Takes sink_before (answer_lines names (answers relayed)) sink_after

-- Where nothing was refused, no device failed and all that the names have is lawful, all of it is relayed, or there was no memory.
abbrev pub CompletesBatch : List (List ℕ) → Job → Status → DoorsState → DoorsState → SinkState → SinkState → Type 0
CompletesBatch names job status before after sink_before sink_after =
    HasNotRisen before.refusals after.refusals → HasNotRisen before.faults after.faults → HasNotRisen sink_before.faults sink_after.faults →
    IfSome before.told (λ told. All (λ name. IsLawful job (content_of name told.named)) names →
    ((status ≡ exit.Clean) × RelaysNames names job told before after sink_before sink_after) ⊎ (status ≡ exit.OutOfMemory))
