-- What a server does: to the doors, to its sink and to the sink for faults.
use Rattle.std.specs.Prelude.{ℕ, suc, ⊤, ◌≡◌, ◌≢◌, ◌<◌, ◌⊎◌, List, [], ◌∷◌, length, slice_get, unwrap_or, Option, Some, IfSome}
use Rattle.edge_core.specs.Device.{SinkState, HasNotRisen, Takes}
use Rattle.edge_core.specs.Doors.{DoorsState, FailsWith, Told}
use Rattle.edge_core.specs.declared.doors.DoorError.{DoorError}
use Rattle.frame_grammar.specs.declared.job.Job.{Job}
use Rattle.relay_model.specs.declared.status.Status.{Status}
use Rattle.relay_model.specs.declared.status.Status.TheVariants as exit
use Rattle.relay_model.specs.Answers.{Relayed, returned}
use Rattle.relay_model.specs.Devices.{HandsBack}
use Rattle.relay_model.specs.World.{World}
use Rattle.relay_threads.specs.Serve.{FailsToServe, IsServed, IsTold, Serves, bytes_behind, listening, served_lines, with_accepted}
use Rattle.relay_threads.specs.declared.serve_end.Ending.{Ending}
use Rattle.relay_threads.specs.declared.serve_end.ServeEnd.{ServeEnd}
use Rattle.relay_threads.specs.declared.serve_end.ServeEnd.TheVariants as ends
use Rattle.relay_top.specs.Opened.{HasRelayedWhole, IsLawful, RelaysOpened, TranslatesOpened}

-- The word of this index.
abbrev pub word_at : ℕ → List (List ℕ) → List ℕ
word_at at words = unwrap_or (slice_get words at) []

-- The status of a server that ended so.
abbrev pub status_of_end : ServeEnd → Status
status_of_end (ends.Served status) = status
status_of_end (ends.Door word) = exit.DoorFault
status_of_end ends.SinkFault = exit.WriteFault
status_of_end ends.OutOfMemory = exit.OutOfMemory

-- What a server of so many connections to this target answers and does. Where there is no memory to begin with, it ends as where there
-- is none to listen.
pub record ServesAt (target : List ℕ) (count : ℕ) (job : Job) (status : Status) (was is : World) : Type 0 where
  pub ending : Ending
  pub served : Serves job target count ending was.doors is.doors was.sink is.sink
  pub end : ServeEnd
  pub told : IsTold ending end was.faults is.faults
  pub ended : status ≡ status_of_end end
  pub source : is.source ≡ was.source

-- ---- what follows

-- This holds of each of these connections, by how many came before it.
abbrev pub EachFrom : (ℕ → Relayed → Type 0) → ℕ → List Relayed → Type 0
EachFrom P k [] = ⊤
EachFrom P k (relayed ∷ others) = P k relayed × EachFrom P (suc k) others

-- They were the first to be accepted, and both devices of each came back, in this order.
abbrev pub HaveComeBack : List Relayed → DoorsState → DoorsState → Type 0
HaveComeBack relayed before after = HandsBack (returned relayed) (with_accepted (length relayed) (listening before)) after

-- The doors behind these connections: they came back, and perhaps the next one was refused; or the doors don't listen, and there was none.
pub data LeavesDoors (relayed : List Relayed) (before after : DoorsState) : Type 0 where
  IsServedSoFar : HaveComeBack relayed before after → LeavesDoors relayed before after
  IsCutOff : (between : DoorsState) → HaveComeBack relayed before between → (error : DoorError) → (word : ℕ) → FailsToServe error word between after
      → LeavesDoors relayed before after
  IsShut : relayed ≡ [] → (error : DoorError) → FailsWith error before after → LeavesDoors relayed before after

-- Where neither of its devices failed and there was memory for it, the target of each connection gained the translation of all that the
-- connection held. But for a status that says otherwise, or a sink that failed, all were relayed.
pub record TranslatesEach (target : List ℕ) (count : ℕ) (job : Job) (status : Status) (before after : DoorsState) (sink_before sink_after : SinkState) : Type 0 where
  pub relayed : List Relayed
  pub each : EachFrom (λ k. TranslatesOpened before.told job (bytes_behind k) target) 0 relayed
  pub doors : LeavesDoors relayed before after
  pub all : status ≢ exit.DoorFault → status ≢ exit.OutOfMemory → HasNotRisen sink_before.faults sink_after.faults → length relayed ≡ count

-- All connections were relayed, each of them whole.
abbrev pub RelaysCount : List ℕ → ℕ → Job → DoorsState → DoorsState → Type 0
RelaysCount target count job before after =
    (relayed : List Relayed) × (length relayed ≡ count) × EachFrom (λ k. RelaysOpened before.told job (bytes_behind k) target) 0 relayed × HaveComeBack relayed before after

-- So they were, and the lines say so.
pub record ServesWhole (target : List ℕ) (count : ℕ) (job : Job) (told : Told) (before after : DoorsState) (sink_before sink_after : SinkState) : Type 0 where
  pub relayed : List Relayed
  pub many : length relayed ≡ count
  pub each : EachFrom (λ k one. IsServed job target (Some told) k one × HasRelayedWhole job (bytes_behind k told) one) 0 relayed
  pub back : HaveComeBack relayed before after
  pub lines : Takes sink_before (served_lines relayed) sink_after

-- Where nothing was refused, no device failed and all that these connections hold is lawful, all of it is relayed, or there was no memory.
abbrev pub CompletesServing : List ℕ → ℕ → Job → Status → DoorsState → DoorsState → SinkState → SinkState → Type 0
CompletesServing target count job status before after sink_before sink_after =
    HasNotRisen before.refusals after.refusals → HasNotRisen before.faults after.faults → HasNotRisen sink_before.faults sink_after.faults →
    IfSome before.told (λ told. ((k : ℕ) → k < count → IsLawful job (bytes_behind k told)) →
    ((status ≡ exit.Clean) × ServesWhole target count job told before after sink_before sink_after) ⊎ (status ≡ exit.OutOfMemory))
