-- What a relay does to its source and its sink.
use Rattle.std.specs.Prelude.{ℕ, ◌≡◌, ◌≢◌, ◌<◌, ◌≤◌, ◌+◌, ◌⊎◌, Bool, true, false, List, [], ◌++◌, length, take, IfSome}
use Rattle.std.specs.Io.KnownBytes.{Appends, Consumes, IsAtEnd}
use mathlib.Core.List.{IsPrefix}
use Rattle.edge_core.specs.Device.{SourceState, SinkState, HasRisen, HasNotRisen}
use Rattle.frame_grammar.specs.declared.job.Job.{Job}
use Rattle.relay_model.specs.declared.ending.FillEnd.{FillEnd}
use Rattle.relay_model.specs.declared.ending.FillEnd.TheVariants as taking
use Rattle.relay_model.specs.declared.ending.Outcome.{Outcome}
use Rattle.relay_model.specs.declared.ending.Report.{Report}
use Rattle.frame_model.specs.declared.framing.BadKind.{BadKind}
use Rattle.frame_model.specs.Cut.{Bad, End, cut}
use Rattle.frame_model.specs.Translation.{Translation, spellable}
use Rattle.frame_grammar.specs.Job.{translation}
use Rattle.relay_model.specs.declared.status.Status.{Status}
use Rattle.relay_model.specs.declared.status.Status.TheVariants as exit
use Rattle.relay_model.specs.Ending.{EndsEarly, frames_written, is_at_end, outcome_of}

-- What was taken from the source and how that ended, what was written to the sink, and whether a write or a flush failed.
pub record Run : Type 0 where
  pub taken : List ℕ
  pub ending : FillEnd
  pub written : List ℕ
  pub write_failed : Bool

-- The translation of what was taken, which goes to the input's end only where the source was read to its end.
abbrev pub translated : Job → Run → Translation
translated job run = translation job run.taken (is_at_end run.ending)

abbrev pub outcome : Job → Run → Outcome
outcome job run = outcome_of run.write_failed run.ending (translated job run).verdict

-- The payloads of an input that are to be written: those before the first that the output can't spell.
abbrev pub payloads_of : Job → List ℕ → Bool → List (List ℕ)
payloads_of job x at_end = spellable job.output (cut job.input job.max x at_end).payloads

-- How many of their frames are whole in what was written.
abbrev pub frames_in : Job → List ℕ → Bool → List ℕ → ℕ
frames_in job x at_end written = let payloads = payloads_of job x at_end in frames_written job.output payloads written (length payloads)

abbrev pub frames : Job → Run → ℕ
frames job run = frames_in job run.taken (is_at_end run.ending) run.written

-- One byte past the limit is read and dropped.
abbrev pub IsDropped : FillEnd → List ℕ → Type 0
IsDropped taking.Long bytes = length bytes ≡ 1
IsDropped ending bytes = bytes ≡ []

-- These bytes, at most so many, were taken and left the source, and the taking ended for this reason.
pub record IsTaken (limit : ℕ) (taken : List ℕ) (ending : FillEnd) (before after : SourceState) : Type 0 where
  pub dropped : List ℕ
  pub dropping : IsDropped ending dropped
  pub given : Consumes before.left after.left (taken ++ dropped)
  pub within : length taken ≤ limit
  pub end : ending ≡ taking.End → IsAtEnd after.left
  pub long : ending ≡ taking.Long → length taken ≡ limit
  pub fault : ending ≡ taking.Fault → HasRisen before.faults after.faults
  pub unfailed : ending ≢ taking.Fault → after.faults ≡ before.faults

-- The run wrote what came to the sink: the whole translation, or where a write or a flush failed a front of it.
pub record IsPassedOn (job : Job) (run : Run) (before after : SinkState) : Type 0 where
  pub gained : Appends before.written after.written run.written
  pub front : IsPrefix run.written (translated job run).text
  pub whole : run.write_failed ≡ false → run.written ≡ (translated job run).text
  pub fault : run.write_failed ≡ true → HasRisen before.faults after.faults
  pub unfailed : run.write_failed ≡ false → after.faults ≡ before.faults
  pub same : after.name ≡ before.name

-- The run is what passed from the source to the sink. The taking goes on until a frame is bad or a write fails.
pub record IsRun (job : Job) (run : Run) (source_before source_after : SourceState) (sink_before sink_after : SinkState) : Type 0 where
  pub taken : IsTaken job.limit run.taken run.ending source_before source_after
  pub passed_on : IsPassedOn job run sink_before sink_after
  pub gone : (code : ℕ) → run.ending ≡ taking.Gone code → EndsEarly (outcome job run)

-- A run passed, and this is its report.
pub record IsReported (job : Job) (report : Report) (source_before source_after : SourceState) (sink_before sink_after : SinkState) : Type 0 where
  pub run : Run
  pub is_run : IsRun job run source_before source_after sink_before sink_after
  pub ended : report.outcome ≡ outcome job run
  pub frames : report.frames ≡ frames job run
  pub taken : report.taken ≡ length run.taken
  pub written : report.written ≡ length run.written

-- ---- what follows

-- None of the frames at the front of these bytes is bad, whatever comes behind them.
abbrev pub HasNoBad : Job → List ℕ → Type 0
HasNoBad job x = (place : ℕ) (kind : BadKind) → (translation job x false).verdict ≢ Bad place kind

-- Less than a segment was taken behind the place where a bad frame is complete: no front with a segment or more of what was taken behind it
-- has one. What left the source was taken, up to the limit.
abbrev pub StopsInTime : Job → SourceState → SourceState → Type 0
StopsInTime job before after =
    IfSome before.left (λ input. IfSome after.left (λ left. (k : ℕ) → k + job.seg + length left ≤ length input → k + job.seg ≤ job.limit → HasNoBad job (take k input)))

-- Where neither device failed, the sink gains the translation of all that the source held.
abbrev pub TranslatesAll : Job → SourceState → SourceState → SinkState → SinkState → Type 0
TranslatesAll job source_before source_after sink_before sink_after =
    HasNotRisen source_before.faults source_after.faults → HasNotRisen sink_before.faults sink_after.faults →
    IfSome source_before.left (λ input. length input ≤ job.limit →
    Appends sink_before.written sink_after.written (translation job input true).text)

-- Where neither device failed and all that the source held is lawful, all of it is relayed, and the status is 0.
abbrev pub IsComplete : Job → Status → SourceState → SourceState → SinkState → SinkState → Type 0
IsComplete job status source_before source_after sink_before sink_after =
    HasNotRisen source_before.faults source_after.faults → HasNotRisen sink_before.faults sink_after.faults →
    IfSome source_before.left (λ input. length input ≤ job.limit → (translation job input true).verdict ≡ End →
    (status ≡ exit.Clean) × Appends sink_before.written sink_after.written (translation job input true).text)

-- The source has nothing left, what it held is lawful to its end, and the sink gains the translation of it.
abbrev pub RelaysAll : Job → SourceState → SourceState → SinkState → SinkState → Type 0
RelaysAll job source_before source_after sink_before sink_after =
    IfSome source_before.left (λ input. IsAtEnd source_after.left × ((translation job input true).verdict ≡ End)
    × Appends sink_before.written sink_after.written (translation job input true).text)

-- Each status of a run comes for its reason alone, and a device that failed shows in the status.
pub record HasCause (status : Status) (source_before source_after : SourceState) (sink_before sink_after : SinkState) : Type 0 where
  pub at_end : (status ≡ exit.Clean) ⊎ (status ≡ exit.Truncated) → IsAtEnd source_after.left
  pub read_fault : status ≡ exit.ReadFault → HasRisen source_before.faults source_after.faults
  pub write_fault : status ≡ exit.WriteFault → HasRisen sink_before.faults sink_after.faults
  pub source_failed : source_before.faults < source_after.faults → (status ≡ exit.BadFrame) ⊎ ((status ≡ exit.ReadFault) ⊎ (status ≡ exit.WriteFault))
  pub sink_failed : sink_before.faults < sink_after.faults → status ≡ exit.WriteFault
  pub few : (status ≢ exit.Usage) × (status ≢ exit.OutOfMemory) × (status ≢ exit.DoorFault)
