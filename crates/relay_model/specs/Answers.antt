-- What a relay is answered by: its report, or that there was no memory for it.
use Rattle.std.specs.Prelude.{ℕ, ◌≡◌, List, [], ◌∷◌, ◌++◌, map, length, codes, decimal, Option, Some, None, Result, Ok, Err, if◌then◌else◌}
use Rattle.std.specs.List.{flat_map}
use Rattle.std.specs.declared.alloc.AllocError.{AllocError}
use Rattle.edge_core.specs.Device.{SourceState, SinkState, Takes, TakesFront}
use Rattle.edge_core.specs.Doors.{Device, Told}
use Rattle.frame_grammar.specs.declared.job.Job.{Job}
use Rattle.relay_model.specs.declared.ending.Outcome.TheVariants.{WriteFault}
use Rattle.relay_model.specs.declared.ending.Report.{Report}
use Rattle.relay_model.specs.declared.status.Status.{Status}
use Rattle.relay_model.specs.declared.status.Status.TheVariants as exit
use Rattle.relay_model.specs.Devices.{AreFresh, Devices, both}
use Rattle.relay_model.specs.Ending.{status_of}
use Rattle.relay_model.specs.Lines.{IsWritten, line_of, memory_line}
use Rattle.relay_model.specs.Run.{IsReported, IsRun, Run, StopsInTime, outcome}
use Rattle.relay_model.specs.Status.{is_clean, number}
use Rattle.relay_model.specs.World.{World}

abbrev pub Answer : Type 0
Answer = Result Report AllocError

-- The devices are as a relay with this report leaves them, or as they were where there was no memory for it.
abbrev pub Finishes : Job → Answer → SourceState → SourceState → SinkState → SinkState → Type 0
Finishes job (Ok report) source_before source_after sink_before sink_after =
    IsReported job report source_before source_after sink_before sink_after
Finishes job (Err _) source_before source_after sink_before sink_after =
    (source_after ≡ source_before) × (sink_after ≡ sink_before)

-- So a relay on one thread leaves them, which takes less than a segment behind a bad frame.
pub record FinishesAlone (job : Job) (answer : Answer) (source_before source_after : SourceState) (sink_before sink_after : SinkState) : Type 0 where
  pub finishes : Finishes job answer source_before source_after sink_before sink_after
  pub in_time : StopsInTime job source_before source_after

-- The status of a relay.
abbrev pub status_of_answer : Answer → Status
status_of_answer (Ok report) = status_of report.outcome
status_of_answer (Err _) = exit.OutOfMemory

-- How many of its frames were written whole.
abbrev pub frames_of_answer : Answer → ℕ
frames_of_answer (Ok report) = report.frames
frames_of_answer (Err _) = 0

-- The line that says why its status isn't Clean.
abbrev pub cause_of_answer : Answer → List ℕ
cause_of_answer (Ok report) = line_of report.outcome report.taken report.written
cause_of_answer (Err _) = memory_line

-- ---- a command that relays its source to its sink

-- It was answered so, and has the status and the line of that. The doors are as they were.
pub record Relays (job : Job) (status : Status) (was is : World) : Type 0 where
  pub answer : Answer
  pub finishes : Finishes job answer was.source is.source was.sink is.sink
  pub ended : status ≡ status_of_answer answer
  pub told : IsWritten (cause_of_answer answer) was.faults is.faults
  pub doors : is.doors ≡ was.doors

-- A run passed, this is its status, and its line was told.
pub record IsRelayed (job : Job) (status : Status) (was is : World) : Type 0 where
  pub run : Run
  pub is_run : IsRun job run was.source is.source was.sink is.sink
  pub ended : status ≡ status_of (outcome job run)
  pub told : IsWritten (line_of (outcome job run) (length run.taken) (length run.written)) was.faults is.faults

-- ---- many relays, one after the other or beside each other

-- The devices of a relay when they were opened and when it had ended, and its answer.
pub record Relayed : Type 0 where
  pub opened : Devices
  pub ended : Devices
  pub answer : Answer

-- It relayed as on one thread alone, from fresh devices, whose sink is that of this name, or these were left as they were, for want of
-- memory.
pub record IsRelayedAlone (told : Option Told) (job : Job) (content : Told → Option (List ℕ)) (name : List ℕ) (relayed : Relayed) : Type 0 where
  pub fresh : AreFresh told content name relayed.opened
  pub finishes : Finishes job relayed.answer relayed.opened.inlet relayed.ended.inlet relayed.opened.outlet relayed.ended.outlet
  pub in_time : StopsInTime job relayed.opened.inlet relayed.ended.inlet

abbrev pub answers : List Relayed → List Answer
answers relayed = map (λ r. r.answer) relayed

-- The devices that came back, the source of each relay and then its sink.
abbrev pub returned : List Relayed → List Device
returned relayed = flat_map (λ r. both r.ended) relayed

-- ---- their lines

-- The line of a relay on the sink, which begins with its label: its status, and how many of its frames were written.
abbrev pub answer_line : List ℕ → Answer → List ℕ
answer_line label answer =
    label ++ (codes " " ++ (decimal (number (status_of_answer answer)) ++ (codes " " ++ (decimal (frames_of_answer answer) ++ codes "\n"))))

-- The lines of all relays.
abbrev pub answer_lines : List (List ℕ) → List Answer → List ℕ
answer_lines [] given = []
answer_lines (label ∷ labels) [] = []
answer_lines (label ∷ labels) (answer ∷ given) = answer_line label answer ++ answer_lines labels given

-- The line of a relay on the sink for faults.
abbrev pub fault_line : List ℕ → Answer → List ℕ
fault_line label answer = label ++ (codes ": " ++ cause_of_answer answer)

-- The first relay whose status isn't Clean: its label, and its answer.
abbrev pub first_failed : List (List ℕ) → List Answer → Option (List ℕ × Answer)
first_failed [] given = None
first_failed (label ∷ labels) [] = None
first_failed (label ∷ labels) (answer ∷ given) = if is_clean (status_of_answer answer) then first_failed labels given else Some (label, answer)

-- The command ends as that relay does, if there is one.
abbrev pub EndsLike : Option (List ℕ × Answer) → Status → SinkState → SinkState → Type 0
EndsLike None status faults_before faults_after = (status ≡ exit.Clean) × (faults_after ≡ faults_before)
EndsLike (Some failed) status faults_before faults_after =
    (status ≡ status_of_answer failed.1) × IsWritten (fault_line failed.0 failed.1) faults_before faults_after

-- The lines of all relays were written and no call of the sink failed, and the command ends as the relays did; or one failed behind so
-- many bytes.
pub data Sums (labels : List (List ℕ)) (given : List Answer) (status : Status) (sink_before sink_after faults_before faults_after : SinkState) : Type 0 where
  IsSummed : Takes sink_before (answer_lines labels given) sink_after → EndsLike (first_failed labels given) status faults_before faults_after
      → Sums labels given status sink_before sink_after faults_before faults_after
  IsBrokenOff : (written : ℕ) → TakesFront sink_before (answer_lines labels given) written sink_after → status ≡ exit.WriteFault
      → IsWritten (line_of WriteFault 0 written) faults_before faults_after
      → Sums labels given status sink_before sink_after faults_before faults_after
