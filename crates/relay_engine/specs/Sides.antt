-- What each side of a relay has done to its end of a pipe once it has ended.
use Rattle.std.specs.Prelude.{ℕ, ◌≡◌, ◌≢◌, false, List, [], ◌∷◌, ◌++◌, length, map, flat_map, Option, Some}
use mathlib.Core.List.{IsPrefix}
use Rattle.std.specs.Io.KnownBytes.{Appends}
use Rattle.edge_core.specs.Device.{SourceState, SinkState, Takes, HasRisen}
use Rattle.frame_grammar.specs.declared.job.Job.{Job}
use Rattle.relay_model.specs.declared.ending.FillEnd.{FillEnd}
use Rattle.relay_model.specs.declared.ending.FillEnd.TheVariants as taking
use Rattle.relay_model.specs.Run.{IsTaken, frames_in}
use Rattle.pipe_core.specs.History.{Run, Call, Commit, EndWriter, EndReader, bytes_of, reader_end, writer_end}
use Rattle.pipe_core.specs.Progress.{total, consumed}
use Rattle.pipe_turns.specs.Log.{calls_of}
use Rattle.pipe_turns.specs.Turns.{Seat}
use Rattle.relay_engine.specs.Frames.{Passes, capped}
use Rattle.relay_engine.specs.Filler.{fill_code}
use Rattle.relay_engine.specs.Drainer.{end_code, is_whole, translated}
use Rattle.relay_engine.specs.Ending.{is_sink_fault, verdict_for}
use Rattle.relay_engine.specs.declared.drain_end.DrainEnd.{DrainEnd}
use Rattle.relay_engine.specs.declared.drain_end.DrainEnd.TheVariants as ends

-- A writer's seat has committed all that was taken from a source, and has completed with the code of the end of the taking. Where
-- that end is that the reader is gone, the reader had completed with this code before, by what the seat has seen.
pub record HasFilled (limit : ℕ) (end : FillEnd) (seat : Seat) (told : ℕ) (before after : SourceState) : Type 0 where
  pub taken : List ℕ
  pub commits : List (List Run)
  pub own : seat.own ≡ map (λ runs. Commit runs) commits ++ EndWriter (fill_code end) ∷ []
  pub bytes : flat_map bytes_of commits ≡ taken
  pub counted : told ≡ length taken
  pub is_taken : IsTaken limit taken end before after
  pub found : List Call
  pub seen : calls_of seat.seen ≡ EndWriter (fill_code end) ∷ found
  pub gone : (code : ℕ) → end ≡ taking.Gone code → reader_end found ≡ Some code

-- the code with which the writer had completed, where a drainer ends for it
abbrev pub IsEndedFor : DrainEnd → Option ℕ → Type 0
IsEndedFor ends.Clean ended = ended ≡ Some 0
IsEndedFor (ends.Rest place) ended = ended ≡ Some 0
IsEndedFor ends.Stopped ended = (code : ℕ) × (code ≢ 0) × (ended ≡ Some code)
IsEndedFor end ended = Unit {0}

-- So many frames and bytes were written of what is committed, of which this is the text: all that is to be written, and the
-- drainer ends for the verdict on it; or where a write or a flush failed a front of it.
pub record Concludes (job : Job) (frames written : ℕ) (h : List Call) (text : List ℕ) (end : DrainEnd) : Type 0 where
  pub front : IsPrefix text (translated job h).text
  pub whole : is_sink_fault end ≡ false → text ≡ (translated job h).text
  pub verdict : is_sink_fault end ≡ false → (translated job h).verdict ≡ verdict_for end
  pub ended : IsEndedFor end (writer_end h)
  -- where nothing failed, the advances have passed just what was written
  pub passed : is_sink_fault end ≡ false → Passes job (total h) (is_whole h) (consumed h) frames text
  pub frames_told : frames ≡ frames_in job (total h) (is_whole h) text
  pub written_told : written ≡ capped (length text)

-- A text came to a sink, of which a write or a flush failed where the end says so.
abbrev pub GainsUntil : DrainEnd → SinkState → List ℕ → SinkState → Type 0
GainsUntil ends.SinkFault before gain after = Appends before.written after.written gain × HasRisen before.faults after.faults × (after.name ≡ before.name)
GainsUntil end before gain after = Takes before gain after

-- A reader's seat has completed with the code of its drainer's end, which is told of all that it had seen before.
pub record HasDrained (job : Job) (end : DrainEnd) (seat : Seat) (frames written : ℕ) (before after : SinkState) : Type 0 where
  pub text : List ℕ
  pub gained : GainsUntil end before text after
  pub found : List Call
  pub seen : calls_of seat.seen ≡ EndReader (end_code end) ∷ found
  pub concludes : Concludes job frames written found text end
  pub calls : List Call
  pub own : seat.own ≡ calls ++ EndReader (end_code end) ∷ []
