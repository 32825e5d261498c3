-- What connections that are relayed one after the other come to.
use Rattle.std.specs.Prelude.{ℕ, suc, ⊤, ◌≡◌, ◌<◌, ◌≤◌, true, List, [], ◌∷◌, drop, length, slice_get, decimal, Option, Some, None, option_map, if◌then◌else◌}
use Rattle.edge_core.specs.Device.{SourceState, SinkState, Takes, TakesFront}
use Rattle.edge_core.specs.Doors.{DoorsState, FailsWith, Told, an_inlet}
use Rattle.edge_core.specs.declared.doors.DoorError.{DoorError}
use Rattle.edge_core.specs.declared.doors.DoorError.TheVariants.{Failed, OutOfMemory}
use Rattle.frame_grammar.specs.declared.job.Job.{Job}
use Rattle.relay_model.specs.declared.ending.Outcome.TheVariants.{WriteFault}
use Rattle.relay_model.specs.declared.status.Status.{Status}
use Rattle.relay_model.specs.Answers.{Answer, EndsLike, Finishes, Relayed, answer_lines, answers, first_failed, returned, status_of_answer}
use Rattle.relay_model.specs.Devices.{AreFresh, HandsBack, IsFreshInlet, with_unused}
use Rattle.relay_model.specs.Lines.{IsWritten, door_line, line_of, memory_line}
use Rattle.relay_model.specs.Status.{is_clean}
use Rattle.relay_threads.specs.declared.serve_end.Ending.{Ending}
use Rattle.relay_threads.specs.declared.serve_end.Ending.TheVariants as served
use Rattle.relay_threads.specs.declared.serve_end.Numbered.{Numbered}
use Rattle.relay_threads.specs.declared.serve_end.ServeEnd.{ServeEnd}
use Rattle.relay_threads.specs.declared.serve_end.ServeEnd.TheVariants as ends

-- ---- connections

-- The bytes of a connection that is still to be accepted, behind so many others.
abbrev pub bytes_behind : ℕ → Told → Option (List ℕ)
bytes_behind k told = slice_get told.incoming k

abbrev pub without_incoming : ℕ → Told → Told
without_incoming n told = record told { incoming = drop n told.incoming }

-- Doors that accepted so many connections.
abbrev pub with_accepted : ℕ → DoorsState → DoorsState
with_accepted n before = record before { told = option_map (without_incoming n) before.told }

abbrev pub listening : DoorsState → DoorsState
listening before = record before { is_listening = true }

module _ (job : Job) (target : List ℕ) where
  -- A connection was relayed to a new one to the target, or there was no memory for it.
  pub record IsServed (told : Option Told) (k : ℕ) (relayed : Relayed) : Type 0 where
    pub fresh : AreFresh told (bytes_behind k) target relayed.opened
    pub finishes : Finishes job relayed.answer relayed.opened.inlet relayed.ended.inlet relayed.opened.outlet relayed.ended.outlet

  -- So were these, one after the other.
  abbrev pub AreServed : Option Told → ℕ → List Relayed → Type 0
  AreServed told k [] = ⊤
  AreServed told k (relayed ∷ others) = IsServed told k relayed × AreServed told (suc k) others

  -- They were accepted, relayed and given back, the source of each and then its sink.
  pub record HasServed (served : List Relayed) (before after : DoorsState) : Type 0 where
    pub each : AreServed before.told 0 served
    pub back : HandsBack (returned served) (with_accepted (length served) before) after

-- The next one was, with this answer.
pub record ServesOne (job : Job) (target : List ℕ) (answer : Answer) (before after : DoorsState) : Type 0 where
  pub relayed : Relayed
  pub answered : relayed.answer ≡ answer
  pub served : HasServed job target (relayed ∷ []) before after

-- The next connection wasn't relayed, for the word of this index: it wasn't accepted, or the target wasn't reached, and its source came
-- back as it was opened.
pub data FailsToServe (error : DoorError) (word : ℕ) (before after : DoorsState) : Type 0 where
  IsNotAccepted : word ≡ 1 → FailsWith error before after → FailsToServe error word before after
  IsNotConnected : word ≡ 2 → (inlet : SourceState) → IsFreshInlet before.told (bytes_behind 0) inlet
      → FailsWith error (with_unused (an_inlet inlet ∷ []) (with_accepted 1 before)) after → FailsToServe error word before after

-- ---- their lines

-- The numbers of connections, from this one on.
abbrev pub numbers : ℕ → List Relayed → List (List ℕ)
numbers n [] = []
numbers n (relayed ∷ others) = decimal n ∷ numbers (suc n) others

abbrev pub served_lines : List Relayed → List ℕ
served_lines served = answer_lines (numbers 1 served) (answers served)

abbrev pub labelled : Numbered → List ℕ × Answer
labelled numbered = (decimal numbered.number, numbered.answer)

-- The first whose status isn't Clean, once this one was served too.
abbrev pub first_of : Option Numbered → Numbered → Option Numbered
first_of (Some first) next = Some first
first_of None next = if is_clean (status_of_answer next.answer) then None else Some next

-- ---- the command

-- What serving so many connections comes to, for the doors and for the sink.
pub data Serves (job : Job) (target : List ℕ) (count : ℕ) (ending : Ending) (before after : DoorsState) (sink_before sink_after : SinkState) : Type 0 where
  -- There was no memory, or listening was refused.
  IsDeaf : (error : DoorError) → FailsWith error before after → sink_after ≡ sink_before → ending ≡ served.Refused error 1
      → Serves job target count ending before after sink_before sink_after
  -- The next one was refused. The sink has the lines of those before.
  IsRefused : (relayed : List Relayed) → length relayed < count → (between : DoorsState) → HasServed job target relayed (listening before) between
      → (error : DoorError) → (word : ℕ) → FailsToServe error word between after → Takes sink_before (served_lines relayed) sink_after → ending ≡ served.Refused error word
      → Serves job target count ending before after sink_before sink_after
  -- The line of the last one couldn't be written whole, or the sink not be flushed.
  IsBrokenOff : (relayed : List Relayed) → length relayed ≤ count → HasServed job target relayed (listening before) after
      → (written : ℕ) → TakesFront sink_before (served_lines relayed) written sink_after → ending ≡ served.BrokenOff written
      → Serves job target count ending before after sink_before sink_after
  -- All were served, and the sink has the lines of all.
  IsServedAll : (relayed : List Relayed) → length relayed ≡ count → HasServed job target relayed (listening before) after
      → Takes sink_before (served_lines relayed) sink_after
      → (failed : Option Numbered) → option_map labelled failed ≡ first_failed (numbers 1 relayed) (answers relayed) → ending ≡ served.AllServed failed
      → Serves job target count ending before after sink_before sink_after

-- How that is answered and told.
abbrev pub IsTold : Ending → ServeEnd → SinkState → SinkState → Type 0
IsTold (served.Refused Failed word) end faults_before faults_after = (end ≡ ends.Door word) × IsWritten (door_line word) faults_before faults_after
IsTold (served.Refused OutOfMemory word) end faults_before faults_after = (end ≡ ends.OutOfMemory) × IsWritten memory_line faults_before faults_after
IsTold (served.BrokenOff written) end faults_before faults_after = (end ≡ ends.SinkFault) × IsWritten (line_of WriteFault 0 written) faults_before faults_after
IsTold (served.AllServed failed) end faults_before faults_after =
    (status : Status) × (end ≡ ends.Served status) × EndsLike (option_map labelled failed) status faults_before faults_after
