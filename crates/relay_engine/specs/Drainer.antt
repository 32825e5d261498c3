-- What a step of a drainer does.
use Rattle.std.specs.Prelude.{ℕ, ◌≡◌, ◌<◌, ◌≤◌, ◌==◌, Bool, false, List, [], length, take, drop, Option, Some, None, position, IsNone}
use Rattle.frame_grammar.specs.declared.job.Job.{Job}
use Rattle.frame_model.specs.declared.framing.Framing.TheVariants.{Line}
use Rattle.frame_model.specs.Spelling.{is_line_feed, longest_frame}
use Rattle.frame_model.specs.Cut.{Open}
use Rattle.frame_model.specs.Translation.{Translation}
use Rattle.frame_grammar.specs.Job.{translation}
use Rattle.pipe_core.specs.History.{Call, writer_end}
use Rattle.pipe_core.specs.Progress.{total, consumed, examined}
use Rattle.relay_engine.specs.Frames.{Passes, capped}
use Rattle.relay_engine.specs.declared.drain_end.DrainEnd.{DrainEnd}
use Rattle.relay_engine.specs.declared.drain_end.DrainEnd.TheVariants as ends

-- What is relayed, how many bytes of the input were passed over, in how many frames, how many bytes were written, and how many
-- bytes of the next frame are known to have no line feed, where the input is lines.
pub record DrainState : Type 0 where
  pub job : Job
  pub place : ℕ
  pub frames : ℕ
  pub written : ℕ
  pub known : ℕ

-- the writer has completed with code 0: the input is at its end
abbrev pub is_success : Option ℕ → Bool
is_success None = false
is_success (Some code) = code == 0

abbrev pub is_whole : List Call → Bool
is_whole h = is_success (writer_end h)

-- what is to be written of all that is committed, and the verdict on it
abbrev pub translated : Job → List Call → Translation
translated job h = translation job (total h) (is_whole h)

-- what the reader has examined of what is committed
abbrev pub looked_at : List Call → List ℕ
looked_at h = take (examined h) (total h)

-- A drainer has made the reader's calls of h, and has written `text`: the frames that its advances passed, and all whole frames
-- of what it has examined. Behind them stands less than a frame.
pub record IsDrained (d : DrainState) (h : List Call) (text : List ℕ) : Type 0 where
  pub place : d.place ≡ consumed h
  pub passes : Passes d.job (looked_at h) false d.place d.frames text
  pub rest : translation d.job (drop d.place (looked_at h)) false ≡ record { text = []; verdict = Open }
  pub short : length (drop d.place (looked_at h)) < longest_frame d.job.input d.job.max
  pub counted : d.written ≡ capped (length text)
  pub known : d.known ≤ length (drop d.place (looked_at h))
  pub unended : d.job.input ≡ Line → IsNone (position is_line_feed (drop d.place (looked_at h)))

-- the code with which the reader completes
abbrev pub end_code : DrainEnd → ℕ
end_code (ends.Bad place kind) = 2
end_code ends.SinkFault = 5
end_code end = 0
