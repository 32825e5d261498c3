-- When a pipe with a buffer stands for a history.
use Rattle.std.specs.Prelude.{ℕ, ◌≡◌, List, [], is_none, if◌then◌else◌}
use Rattle.pipe_core.specs.declared.marks.Marks.{Marks}
use Rattle.pipe_core.specs.History.{Call, reader_end}
use Rattle.pipe_core.specs.Progress.{held}
use Rattle.pipe_core.specs.Answers.{Answer, Answers}
use Rattle.pipe_core.specs.Standing.{Thresholds, thresholds_of, StandsFor}
use Rattle.pipe_core.specs.Bytes.{Bytes, capacity_of}

-- marks and flags, and what lies in the buffer
pub record Pipe : Type 0 where
  pub control : Marks
  pub bytes : Bytes

-- what a buffer keeps for the reader: nothing once it has completed
abbrev pub kept : List Call → List ℕ
kept h = if is_none (reader_end h) then held h else []

pub record HoldsFor (p : Pipe) (h : List Call) : Type 0 where
  pub marks : StandsFor p.control h
  pub held : p.bytes.held ≡ kept h

-- what a pipe was made with
pub record Made : Type 0 where
  pub thresholds : Thresholds
  pub capacity : ℕ

abbrev pub made_of : Pipe → Made
made_of p = record { thresholds = thresholds_of p.control; capacity = capacity_of p.bytes }

-- Calls, the latest first, took a pipe to a pipe.
abbrev pub PipeAnswers : Pipe → List Call → Answer → Pipe → Type 0
PipeAnswers before calls answer after = Answers (λ p. p.control) made_of HoldsFor before.control.pause before.control.resume before calls answer after
