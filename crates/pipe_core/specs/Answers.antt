-- What each call is answered, and how a whole list of calls is.
use Rattle.std.specs.Prelude.{ℕ, ◌≡◌, List, [], ◌∷◌, ◌++◌, Option, Some, None}
use Rattle.pipe_core.specs.declared.marks.Marks.{Marks}
use Rattle.pipe_core.specs.declared.reply.FlushReply.{FlushReply}
use Rattle.pipe_core.specs.declared.reply.ReadReply.{ReadReply}
use Rattle.pipe_core.specs.declared.reply.ReadReply.TheVariants as read
use Rattle.pipe_core.specs.declared.reply.Wake.{Wake}
use Rattle.pipe_core.specs.History.{Call, Commit, EndWriter, Read, Advance, EndReader}
use Rattle.pipe_core.specs.Reads.{reply_to_read}
use Rattle.pipe_core.specs.Flushes.{reply_to_commit}
use Rattle.pipe_core.specs.Wakes.{wake_of, wakes_of}

-- A commit and a read have a reply, and each call has a wake.
pub data Answer : Type 0 where
  Flushed : FlushReply → Wake → Answer
  Gave : ReadReply → Wake → Answer
  Woke : Wake → Answer

-- the answer to a call in h
abbrev pub answer_to : ℕ → ℕ → Call → List Call → Answer
answer_to pause resume (Commit runs) h = Flushed (reply_to_commit pause resume h runs) (wake_of pause resume (Commit runs) h)
answer_to pause resume (Read n) h = Gave (reply_to_read n h) (wake_of pause resume (Read n) h)
answer_to pause resume call h = Woke (wake_of pause resume call h)

-- the answers to calls that are made in this order after h
abbrev pub answers_after : ℕ → ℕ → List Call → List Call → List Answer
answers_after pause resume h [] = []
answers_after pause resume h (call ∷ calls) = answer_to pause resume call h ∷ answers_after pause resume (call ∷ h) calls

-- the answers to calls that are made in this order from the start
abbrev pub answers : ℕ → ℕ → List Call → List Answer
answers pause resume calls = answers_after pause resume [] calls

-- the answer to calls that are made at once, the latest first: a call alone has its own, and of several, or none, only their wake is told
abbrev pub answer_at_once : ℕ → ℕ → List Call → List Call → Answer
answer_at_once pause resume (call ∷ []) h = answer_to pause resume call h
answer_at_once pause resume calls h = Woke (wakes_of pause resume calls h)

-- the writer's code after a call, the reader's code, and the length of the lend
abbrev pub ended_after : Call → Option ℕ → Option ℕ
ended_after (EndWriter code) before = Some code
ended_after call before = before

abbrev pub gone_after : Call → Option ℕ → Option ℕ
gone_after (EndReader code) before = Some code
gone_after call before = before

abbrev pub lent_after : Call → Answer → Option ℕ → Option ℕ
lent_after (Read n) (Gave (read.Ready canceled ended len) wake) before = Some len
lent_after (Read n) answer before = None
lent_after (Advance c e) answer before = None
lent_after (EndReader code) answer before = None
lent_after call answer before = before

-- the same after calls that are made at once, the latest first. Of several none is a read
abbrev pub ended_after_all : List Call → Option ℕ → Option ℕ
ended_after_all [] before = before
ended_after_all (call ∷ calls) before = ended_after call (ended_after_all calls before)

abbrev pub gone_after_all : List Call → Option ℕ → Option ℕ
gone_after_all [] before = before
gone_after_all (call ∷ calls) before = gone_after call (gone_after_all calls before)

abbrev pub lent_after_all : List Call → Answer → Option ℕ → Option ℕ
lent_after_all [] answer before = before
lent_after_all (call ∷ calls) answer before = lent_after call answer (lent_after_all calls answer before)

-- Calls, the latest first, took a pipe with these thresholds, or a part of one, to another. What it was made with stays. By its marks, whether an
-- end has completed goes by the calls alone, and what is lent by them and their answer. For every history that it stood for, the answer is the one that
-- the calls have there, and it now stands for the history with the calls.
pub record Answers {S M : Type 0} (marks : S → Marks) (made : S → M) (at : S → List Call → Type 0) (pause resume : ℕ) (before : S) (calls : List Call) (answer : Answer) (after : S) : Type 0 where
  pub kept : made after ≡ made before
  pub ended : (marks after).ended ≡ ended_after_all calls (marks before).ended
  pub gone : (marks after).gone ≡ gone_after_all calls (marks before).gone
  pub lent : (marks after).lent ≡ lent_after_all calls answer (marks before).lent
  pub told : (h : List Call) → at before h → answer ≡ answer_at_once pause resume calls h
  pub stands : (h : List Call) → at before h → at after (calls ++ h)
