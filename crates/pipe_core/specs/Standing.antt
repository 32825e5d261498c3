-- When marks and flags stand for a history.
use Rattle.std.specs.Prelude.{ℕ, ◌≡◌, ◌≤◌, ◌+◌, ◌^◌, ◌⊎◌, List, [], ◌∷◌, length, Option, option_map, unwrap_or, IsSomeAnd}
use Rattle.pipe_core.specs.declared.marks.Marks.{Marks}
use Rattle.pipe_core.specs.History.{Call, writer_end, reader_end}
use Rattle.pipe_core.specs.Progress.{total, consumed, examined, canceled_read, canceled_flush}
use Rattle.pipe_core.specs.Pauses.{is_paused}
use Rattle.pipe_core.specs.Reads.{awaited}
use Rattle.pipe_core.specs.Flushes.{writer_waits}
use Rattle.pipe_core.specs.Lends.{lend}
use Rattle.pipe_core.specs.Legal.{IsLegal}
use Rattle.pipe_core.specs.Answers.{Answer, Answers}

-- Each mark and each flag is the answer to its question on a lawful history.
pub record StandsFor (m : Marks) (h : List Call) : Type 0 where
  pub legal : IsLegal h
  pub committed : m.committed ≡ length (total h)
  pub consumed : m.consumed ≡ consumed h
  pub examined : m.examined ≡ examined h
  pub ended : m.ended ≡ writer_end h
  pub gone : m.gone ≡ reader_end h
  pub read_canceled : m.read_canceled ≡ canceled_read h
  pub flush_canceled : m.flush_canceled ≡ canceled_flush h
  pub paused : m.paused ≡ is_paused m.pause m.resume h
  pub lent : m.lent ≡ option_map length (lend h)
  pub awaited : m.awaited ≡ awaited h
  pub writer_waits : m.writer_waits ≡ writer_waits m.pause m.resume h

-- The thresholds that a pipe may have: no pause at all, or one that ends below a threshold of at least 1.
abbrev pub AreThresholds : ℕ → ℕ → Type 0
AreThresholds pause resume = (pause ≤ 2 ^ 62) × ((pause ≡ 0) ⊎ ((1 ≤ resume) × (resume ≤ pause)))

-- An advance may consume c and examine e of the bytes that are lent.
abbrev pub MayAdvance : Option ℕ → ℕ → ℕ → Type 0
MayAdvance lent c e = IsSomeAnd lent (λ n. (c ≤ e) × (e ≤ n))

-- What is true of all marks of a control: they stand for a history.
pub record IsSound (m : Marks) : Type 0 where
  pub thresholds : AreThresholds m.pause m.resume
  pub history : (h : List Call) × StandsFor m h
  pub consumed_in : m.consumed ≤ m.committed
  pub examined_in : m.examined ≤ m.committed
  pub committed_in : m.committed ≤ 2 ^ 62
  pub lent_in : m.consumed + unwrap_or m.lent 0 ≤ m.committed

-- the thresholds
pub record Thresholds : Type 0 where
  pub pause : ℕ
  pub resume : ℕ

abbrev pub thresholds_of : Marks → Thresholds
thresholds_of m = record { pause = m.pause; resume = m.resume }

-- A call took marks to marks.
abbrev pub ControlAnswers : Marks → Call → Answer → Marks → Type 0
ControlAnswers before call answer after = Answers (λ m. m) thresholds_of StandsFor before.pause before.resume before (call ∷ []) answer after

-- The same of calls that were made one after another, each with its answer.
abbrev pub AnswersAll : Marks → List (Call × Answer) → Marks → Type 0
AnswersAll before [] after = after ≡ before
AnswersAll before (step ∷ steps) after = (middle : Marks) × ControlAnswers before step.0 step.1 middle × AnswersAll middle steps after
