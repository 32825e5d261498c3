-- What a relay between devices that doors opened comes to, and the causes of the status of a command of such relays.
use Rattle.std.specs.Prelude.{ℕ, ◌≡◌, ◌≢◌, ◌<◌, ◌≤◌, true, ◌⊎◌, List, length, Option, Some, IfSome, IfOk}
use Rattle.edge_core.specs.Device.{SinkState, HasRisen}
use Rattle.edge_core.specs.Doors.{DoorsState, Told}
use Rattle.frame_grammar.specs.declared.job.Job.{Job}
use Rattle.frame_grammar.specs.Job.{translation}
use Rattle.frame_model.specs.Cut.{End}
use Rattle.relay_model.specs.declared.status.Status.{Status}
use Rattle.relay_model.specs.declared.status.Status.TheVariants as exit
use Rattle.relay_model.specs.Answers.{Relayed, status_of_answer}
use Rattle.relay_model.specs.Devices.{AreFresh}
use Rattle.relay_model.specs.Run.{RelaysAll, TranslatesAll}

-- The sink that a relay has written to is that of a name, where the doors tell it.
abbrev pub HasOwnSink : Option Told → List ℕ → Relayed → Type 0
HasOwnSink told name relayed = IfSome told (λ _. relayed.ended.outlet.name ≡ Some name)

-- From fresh devices, where neither failed and there was memory for the relay, the sink gained the translation of all that the source held.
pub record TranslatesOpened (told : Option Told) (job : Job) (content : Told → Option (List ℕ)) (name : List ℕ) (relayed : Relayed) : Type 0 where
  pub fresh : AreFresh told content name relayed.opened
  pub translated : IfOk relayed.answer (λ report. TranslatesAll job relayed.opened.inlet relayed.ended.inlet relayed.opened.outlet relayed.ended.outlet)
  pub own : HasOwnSink told name relayed

-- All that the source held was lawful, and all of it was relayed.
pub record RelaysOpened (told : Option Told) (job : Job) (content : Told → Option (List ℕ)) (name : List ℕ) (relayed : Relayed) : Type 0 where
  pub fresh : AreFresh told content name relayed.opened
  pub whole : RelaysAll job relayed.opened.inlet relayed.ended.inlet relayed.opened.outlet relayed.ended.outlet
  pub own : HasOwnSink told name relayed

-- Bytes, where there are some, are lawful to their end, and no more than a relay takes.
abbrev pub IsLawful : Job → Option (List ℕ) → Type 0
IsLawful job bytes = IfSome bytes (λ input. (length input ≤ job.limit) × ((translation job input true).verdict ≡ End))

-- A relay had a clean status, and its sink has the translation of these bytes.
pub record HasRelayedWhole (job : Job) (bytes : Option (List ℕ)) (relayed : Relayed) : Type 0 where
  pub clean : status_of_answer relayed.answer ≡ exit.Clean
  pub translated : (input : List ℕ) × (bytes ≡ Some input) × (relayed.ended.outlet.written ≡ Some (translation job input true).text)

-- DoorFault, ReadFault and WriteFault come only where an opening was refused or a device failed; and an opening that is refused shows as
-- DoorFault, a sink that fails as WriteFault.
pub record HasOpeningCause (status : Status) (before after : DoorsState) (sink_before sink_after : SinkState) : Type 0 where
  pub few : status ≢ exit.Usage
  pub refused : status ≡ exit.DoorFault → HasRisen before.refusals after.refusals
  pub shows_refused : before.refusals < after.refusals → status ≡ exit.DoorFault
  pub read_fault : status ≡ exit.ReadFault → HasRisen before.faults after.faults
  pub write_fault : status ≡ exit.WriteFault → HasRisen sink_before.faults sink_after.faults ⊎ HasRisen before.faults after.faults
  pub sink_failed : sink_before.faults < sink_after.faults → status ≡ exit.WriteFault
