-- Whom a call wakes.
use Rattle.std.specs.Prelude.{ℕ, Bool, false, not, ◌&&◌, ◌||◌, List, [], ◌∷◌, ◌++◌, Option, Some, None}
use Rattle.pipe_core.specs.declared.reply.Wake.{Wake}
use Rattle.pipe_core.specs.History.{Call}
use Rattle.pipe_core.specs.Reads.{read_is_ready, awaited}
use Rattle.pipe_core.specs.Flushes.{flush_is_ready, writer_waits}

-- whether a call in h makes the read that waits for so many bytes ready, which was not
abbrev pub becomes_ready : Option ℕ → Call → List Call → Bool
becomes_ready None call h = false
becomes_ready (Some n) call h = not (read_is_ready n h) && read_is_ready n (call ∷ h)

-- An end is woken by a call in h where it waits, and the call makes ready what was not.
abbrev pub wakes_reader : Call → List Call → Bool
wakes_reader call h = becomes_ready (awaited h) call h

abbrev pub wakes_writer : ℕ → ℕ → Call → List Call → Bool
wakes_writer pause resume call h = writer_waits pause resume h && not (flush_is_ready pause resume h []) && flush_is_ready pause resume (call ∷ h) []

abbrev pub wake_of : ℕ → ℕ → Call → List Call → Wake
wake_of pause resume call h = record { reader = wakes_reader call h; writer = wakes_writer pause resume call h }

abbrev pub either_wake : Wake → Wake → Wake
either_wake a b = record { reader = a.reader || b.reader; writer = a.writer || b.writer }

-- Several calls, the latest first, wake an end where one of them does.
abbrev pub wakes_of : ℕ → ℕ → List Call → List Call → Wake
wakes_of pause resume [] h = record { reader = false; writer = false }
wakes_of pause resume (call ∷ calls) h = either_wake (wake_of pause resume call (calls ++ h)) (wakes_of pause resume calls h)
