-- What a drill does.
use Rattle.std.specs.Prelude.{ℕ, ⊤, ◌≡◌, ◌<◌, ◌⊎◌, true, List, ◌++◌, length, codes, decimal}
use Rattle.edge_core.specs.Device.{SinkState, HasNotRisen, HasRisen, Takes, TakesFront}
use Rattle.frame_model.specs.declared.framing.BadKind.{BadKind}
use Rattle.frame_grammar.specs.declared.job.Job.{Job}
use Rattle.relay_model.specs.declared.ending.Outcome.{Outcome}
use Rattle.relay_model.specs.declared.ending.Outcome.TheVariants.{Clean, BadFrame, WriteFault}
use Rattle.frame_model.specs.Cut.{Bad, End}
use Rattle.frame_model.specs.Translation.{Translation}
use Rattle.frame_grammar.specs.Job.{translation}
use Rattle.gen_core.specs.Generator.{input}
use Rattle.relay_model.specs.declared.status.Status.{Status}
use Rattle.relay_model.specs.declared.status.Status.TheVariants as exit
use Rattle.relay_model.specs.Lines.{IsWritten, line_of, memory_line}
use Rattle.relay_model.specs.World.{KeepsInputs, TellsOnly, World}

-- The translation of the generated input, to its end.
abbrev pub drilled : ℕ → ℕ → Job → Translation
drilled seed count job = translation job (input seed count job.input) true

-- The line that says how many frames were relayed, and how many bytes came in and went out.
abbrev pub summary_line : ℕ → ℕ → ℕ → List ℕ
summary_line frames taken written = codes "frames=" ++ (decimal frames ++ (codes " in=" ++ (decimal taken ++ (codes " out=" ++ (decimal written ++ codes "\n")))))

-- The line of a drill all of whose frames were relayed.
abbrev pub summary : ℕ → ℕ → Job → List ℕ
summary seed count job = summary_line count (length (input seed count job.input)) (length (drilled seed count job).text)

-- A relay of the generated input into memory took and wrote so many bytes, and ended so.
abbrev pub EndsAs : ℕ → ℕ → Job → ℕ → ℕ → Outcome → Type 0
EndsAs seed count job taken written Clean =
    ((drilled seed count job).verdict ≡ End) × (taken ≡ length (input seed count job.input)) × (written ≡ length (drilled seed count job).text)
EndsAs seed count job taken written (BadFrame place kind) = (drilled seed count job).verdict ≡ Bad place kind
EndsAs seed count job taken written WriteFault = ⊤
EndsAs seed count job taken written other = ⊥

-- What a drill answers and does. It reads nothing of the source, and opens nothing.
pub data Drills (seed count : ℕ) (job : Job) (status : Status) (was is : World) : Type 0 where
  -- There was no memory for it.
  HasNoMemory : status ≡ exit.OutOfMemory → TellsOnly memory_line was is → Drills seed count job status was is
  -- The generated input has a bad frame, which the line tells.
  IsBad : (place : ℕ) (kind : BadKind) → (drilled seed count job).verdict ≡ Bad place kind → status ≡ exit.BadFrame
      → TellsOnly (line_of (BadFrame place kind) 0 0) was is → Drills seed count job status was is
  -- All of it is lawful, and its summary was written.
  IsSummed : (drilled seed count job).verdict ≡ End → status ≡ exit.Clean → KeepsInputs was is
      → Takes was.sink (summary seed count job) is.sink → is.faults ≡ was.faults → Drills seed count job status was is
  -- All of it is lawful, and a write or the flush of its summary failed behind so many bytes.
  IsBrokenOff : (written : ℕ) → (drilled seed count job).verdict ≡ End → status ≡ exit.WriteFault → KeepsInputs was is
      → TakesFront was.sink (summary seed count job) written is.sink → IsWritten (line_of WriteFault 0 written) was.faults is.faults
      → Drills seed count job status was is

-- ---- what follows

-- Each status of a drill has its cause.
pub record HasDrillCause (seed count : ℕ) (job : Job) (status : Status) (sink_before sink_after : SinkState) : Type 0 where
  pub few : (status ≡ exit.Clean) ⊎ (status ≡ exit.BadFrame) ⊎ (status ≡ exit.WriteFault) ⊎ (status ≡ exit.OutOfMemory)
  pub bad : status ≡ exit.BadFrame → (place : ℕ) × (kind : BadKind) × ((drilled seed count job).verdict ≡ Bad place kind)
  pub shows_bad : (place : ℕ) (kind : BadKind) → (drilled seed count job).verdict ≡ Bad place kind → (status ≡ exit.BadFrame) ⊎ (status ≡ exit.OutOfMemory)
  pub write_fault : status ≡ exit.WriteFault → HasRisen sink_before.faults sink_after.faults
  pub sink_failed : sink_before.faults < sink_after.faults → status ≡ exit.WriteFault

-- All that was generated is lawful, and its summary was written.
pub record IsSummedUp (seed count : ℕ) (job : Job) (sink_before sink_after : SinkState) : Type 0 where
  pub lawful : (drilled seed count job).verdict ≡ End
  pub summed : Takes sink_before (summary seed count job) sink_after

-- What a drill has written to its sink, by its status.
pub record HasGained (seed count : ℕ) (job : Job) (status : Status) (sink_before sink_after : SinkState) : Type 0 where
  pub summed : status ≡ exit.Clean → Takes sink_before (summary seed count job) sink_after
  pub broken_off : status ≡ exit.WriteFault → (written : ℕ) × TakesFront sink_before (summary seed count job) written sink_after
  pub nothing : (status ≡ exit.BadFrame) ⊎ (status ≡ exit.OutOfMemory) → sink_after ≡ sink_before

-- Where the sink didn't fail and the generated input is lawful, the summary was written, or there was no memory.
abbrev pub SumsUp : ℕ → ℕ → Job → Status → SinkState → SinkState → Type 0
SumsUp seed count job status sink_before sink_after =
    HasNotRisen sink_before.faults sink_after.faults → (drilled seed count job).verdict ≡ End →
    ((status ≡ exit.Clean) × Takes sink_before (summary seed count job) sink_after) ⊎ (status ≡ exit.OutOfMemory)
