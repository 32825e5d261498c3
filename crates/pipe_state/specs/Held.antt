-- What the two ends of a pipe share, and when it stands for a history of their calls.
use Rattle.std.specs.Prelude.{◌≡◌, ◌≤◌, ◌+◌, ℕ, false, List, [], length, Option, Some, None, IsNone, IsSome, IfSome}
use Rattle.pipe_core.specs.declared.marks.Marks.{Marks}
use Rattle.pipe_core.specs.History.{Call, reader_end}
use Rattle.pipe_core.specs.Answers.{Answer, Answers}
use Rattle.pipe_core.specs.Standing.{StandsFor, Thresholds, thresholds_of}
use Rattle.seg_block.specs.Numbered.{weigh}
use Rattle.pipe_state.specs.Released.{BlockName, bytes_in, first_goes}
use Rattle.pipe_state.specs.Chains.{first_len}
use Rattle.pipe_state.specs.Segments.{AreFilled, Releases, SegmentsState}
use Rattle.pipe_state.specs.Lying.{HaveOwnIds, Lies, runs_of}
use Rattle.pipe_state.specs.declared.reading.Reading.{Reading}

-- Marks and flags, and the segments.
pub record PipeHeld : Type 0 where
  pub control : Marks
  pub segments : SegmentsState

-- what it was made with, and by which names the ends are known
pub record HeldMade : Type 0 where
  pub thresholds : Thresholds
  pub blocks : List BlockName
  pub reader_name : ℕ
  pub writer_name : ℕ

abbrev pub held_made : PipeHeld → HeldMade
held_made p = record { thresholds = thresholds_of p.control; blocks = p.segments.blocks; reader_name = p.segments.reader_name; writer_name = p.segments.writer_name }

-- Marks and flags are those of the history, and while the reader attends what lies in the segments is what the history lends.
pub record HoldsRuns (p : PipeHeld) (h : List Call) : Type 0 where
  pub marks : StandsFor p.control h
  pub lies : IsNone (reader_end h) → Lies h p.segments.reader.skip (runs_of p.segments.live)

-- Calls, the latest first, took a pipe's state to a state.
abbrev pub HeldAnswers : PipeHeld → List Call → Answer → PipeHeld → Type 0
HeldAnswers before calls answer after = Answers (λ p. p.control) held_made HoldsRuns before.control.pause before.control.resume before calls answer after

-- The part of a reader that has completed has all that has bytes for it, and has given up all of that; what is finished is at home.
pub record HasGivenUp (s : SegmentsState) (reading : Reading) : Type 0 where
  pub pair : reading.half.name ≡ s.reader_name
  pub room : length s.blocks ≤ reading.chain.capacity
  pub all : s.reader.segments ≡ s.live
  pub consumed : s.reader.skip ≡ length (bytes_in s.live)
  pub home : first_goes s.reader.skip s.reader.segments ≡ false

-- The reader's part lies here exactly where the reader has completed.
abbrev pub IsKept : Option ℕ → SegmentsState → Option Reading → Type 0
IsKept None s None = Unit {0}
IsKept None s (Some reading) = ⊥
IsKept (Some code) s None = ⊥
IsKept (Some code) s (Some reading) = HasGivenUp s reading

pub record IsHeld (p : PipeHeld) (retired : Option Reading) : Type 0 where
  pub history : (h : List Call) × HoldsRuns p h
  pub own : HaveOwnIds p.segments.blocks
  pub lent : IfSome p.control.lent (λ n. p.segments.reader.skip + n ≡ length (bytes_in p.segments.reader.segments))
  pub within : IsNone p.control.gone → p.segments.reader.skip ≤ first_len p.segments.live
  pub filled : IsNone p.control.ended → AreFilled p.segments.writer.hint p.segments.live
  pub kept : IsKept p.control.gone p.segments retired
  pub ended : IsSome p.control.ended → p.segments.writer.segments ≡ []

-- once the reader has all that was sent to it
abbrev pub all_fetched_in : SegmentsState → SegmentsState
all_fetched_in s = record s { reader = record { segments = s.live; skip = s.reader.skip } }

-- The part of a reader that has completed took all that was sent to it, and gave up so many bytes more.
pub record TakesHome (n : ℕ) (reading : Reading) (before : SegmentsState) (reading' : Reading) (after : SegmentsState) : Type 0 where
  pub pair : reading'.half.name ≡ after.reader_name
  pub capacity : reading'.chain.capacity ≡ reading.chain.capacity
  pub released : Releases n (all_fetched_in before) after

-- While the reader attends, nothing is done.
abbrev pub Settles : ℕ → Option Reading → SegmentsState → Option Reading → SegmentsState → Type 0
Settles n None before None after = after ≡ before
Settles n None before (Some reading') after = ⊥
Settles n (Some reading) before None after = ⊥
Settles n (Some reading) before (Some reading') after = TakesHome n reading before reading' after

-- These are the blocks, each as often.
abbrev pub AreAll : List BlockName → List BlockName → Type 0
AreAll home blocks = (weight : BlockName → ℕ) → weigh weight home ≡ weigh weight blocks
