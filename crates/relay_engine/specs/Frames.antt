-- What is written of the frames of some bytes.
use Rattle.std.specs.Prelude.{ℕ, ◌≡◌, ◌<◌, ◌≤◌, ◌-◌, ◌^◌, min, Bool, List, [], ◌∷◌, ◌++◌, length, drop, take, position, IsNone}
use Rattle.std.specs.Io.KnownBytes.{Appends}
use mathlib.Core.List.{IsPrefix}
use Rattle.edge_core.specs.Device.{SinkState, Takes, HasRisen}
use Rattle.frame_grammar.specs.declared.job.Job.{Job}
use Rattle.frame_model.specs.declared.framing.Framing.TheVariants.{Line}
use Rattle.frame_model.specs.Spelling.{is_line_feed, longest_frame, obstacle, spelling, text as text_of}
use Rattle.frame_model.specs.Cut.{Verdict, Open, End, Rest, Bad, MayCome}
use Rattle.frame_model.specs.Translation.{behind}
use Rattle.frame_grammar.specs.Job.{translation}
use Rattle.relay_model.specs.Run.{payloads_of}
use Rattle.relay_engine.specs.declared.frames.Stop.{Stop}
use Rattle.relay_engine.specs.declared.frames.Stop.TheVariants as stops
use Rattle.relay_engine.specs.declared.frames.LendPassed.{LendPassed}
use Rattle.relay_engine.specs.declared.frames.Broken.{Broken}

-- A count of bytes, as 64 bits tell it: from their greatest number on it stays there.
abbrev pub capped : ℕ → ℕ
capped n = min n (2 ^ 64 - 1)

-- The first `len` bytes are so many frames, and this is their text in the output. Whatever may come, the translation goes
-- on behind them.
pub record Passes (job : Job) (bytes : List ℕ) (at_end : Bool) (len frames : ℕ) (text : List ℕ) : Type 0 where
  pub within : len ≤ length bytes
  pub payloads : List (List ℕ)
  pub counted : frames ≡ length payloads
  pub spelt : text ≡ text_of job.output payloads
  pub listed : (z : List ℕ) (b : Bool) → MayCome at_end z b → payloads_of job (bytes ++ z) b ≡ payloads ++ payloads_of job (drop len bytes ++ z) b
  pub goes_on : (z : List ℕ) (b : Bool) → MayCome at_end z b → translation job (bytes ++ z) b ≡ behind text len (translation job (drop len bytes ++ z) b)

-- the verdict for which no further frame is passed on, at this place
abbrev pub verdict_of : Stop → ℕ → Verdict
verdict_of stops.More place = Open
verdict_of stops.End place = End
verdict_of stops.Rest place = Rest place
verdict_of (stops.Bad kind) place = Bad place kind

-- No frame is passed on. Where more is wanted, there is less than one longest frame, and of a line no end.
pub record StopsAt (job : Job) (bytes : List ℕ) (at_end : Bool) (stop : Stop) : Type 0 where
  pub told : translation job bytes at_end ≡ record { text = []; verdict = verdict_of stop 0 }
  pub short : stop ≡ stops.More → length bytes < longest_frame job.input job.max
  pub unended : stop ≡ stops.More → job.input ≡ Line → IsNone (position is_line_feed bytes)

-- A payload that can be spelt, and its frame of so many bytes, come first.
pub record IsFirst (job : Job) (bytes : List ℕ) (at_end : Bool) (payload : List ℕ) (len : ℕ) : Type 0 where
  pub passes : Passes job bytes at_end len 1 (spelling job.output payload)
  pub others : List (List ℕ)
  pub first : payloads_of job bytes at_end ≡ payload ∷ others
  pub spelt : IsNone (obstacle job.output payload)
  pub some : 0 < len

-- All that can be passed on was, up to where it stopped.
pub record Drains (job : Job) (bytes : List ℕ) (at_end : Bool) (before : SinkState) (drained : LendPassed) (after : SinkState) : Type 0 where
  pub text : List ℕ
  pub passes : Passes job bytes at_end drained.passed drained.frames text
  pub taken : Takes before text after
  pub counted : drained.written ≡ capped (length text)
  pub stopped : StopsAt job (drop drained.passed bytes) at_end drained.stop

-- Behind whole frames, a call of the sink failed within the next one.
pub record Breaks (job : Job) (bytes : List ℕ) (at_end : Bool) (before : SinkState) (broken : Broken) (after : SinkState) : Type 0 where
  pub len : ℕ
  pub text : List ℕ
  pub passes : Passes job bytes at_end len broken.frames text
  pub next : List ℕ
  pub others : List (List ℕ)
  pub stands_next : payloads_of job (drop len bytes) at_end ≡ next ∷ others
  pub part : List ℕ
  pub is_part : IsPrefix part (spelling job.output next)
  pub short : length part < length (spelling job.output next)
  pub written : Appends before.written after.written (text ++ part)
  pub risen : HasRisen before.faults after.faults
  pub same : after.name ≡ before.name
  pub counted : broken.written ≡ capped (length (text ++ part))

-- A call of the sink failed. A front of what is to be written came to it, of so many bytes, and not all.
pub record Interrupts (job : Job) (bytes : List ℕ) (at_end : Bool) (before : SinkState) (passed : ℕ) (after : SinkState) : Type 0 where
  pub short : passed < length (translation job bytes at_end).text
  pub written : Appends before.written after.written (take passed (translation job bytes at_end).text)
  pub risen : HasRisen before.faults after.faults
  pub same : after.name ≡ before.name

-- So many frames are whole in the first `written` bytes of what is to be written. Behind them is a part of the next one.
pub record CountsWhole (job : Job) (bytes : List ℕ) (at_end : Bool) (written frames : ℕ) : Type 0 where
  pub len : ℕ
  pub text : List ℕ
  pub passes : Passes job bytes at_end len frames text
  pub next : List ℕ
  pub others : List (List ℕ)
  pub stands_next : payloads_of job (drop len bytes) at_end ≡ next ∷ others
  pub part : List ℕ
  pub is_part : IsPrefix part (spelling job.output next)
  pub short : length part < length (spelling job.output next)
  pub whole : take written (translation job bytes at_end).text ≡ text ++ part
