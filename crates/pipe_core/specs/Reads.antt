-- What a read is answered, by the history before it.
use Rattle.std.specs.Prelude.{ℕ, Bool, false, not, ◌&&◌, ◌||◌, nat_lt, nat_le, List, length, Option, Some, None, is_some, if◌then◌else◌}
use Rattle.pipe_core.specs.declared.reply.ReadReply.{ReadReply}
use Rattle.pipe_core.specs.declared.reply.ReadReply.TheVariants.{Ready, Pending}
use Rattle.pipe_core.specs.History.{Call, Read, writer_end, last_of}
use Rattle.pipe_core.specs.Progress.{examined, unexamined, held, canceled_read}

-- whether a read for at least n bytes is ready
abbrev pub read_is_ready : ℕ → List Call → Bool
read_is_ready n h = canceled_read h || is_some (writer_end h) || (nat_lt 0 (unexamined h) && nat_le n (length (held h)))

-- the reply to a read for at least n bytes in h
abbrev pub reply_to_read : ℕ → List Call → ReadReply
reply_to_read n h = if read_is_ready n h then Ready (canceled_read h) (writer_end h) (length (held h)) else Pending (examined h) (length (held h))

-- for how many bytes a call waits, with what stood before it: a read that was answered Pending
abbrev pub awaited_by : Option (Call × List Call) → Option ℕ
awaited_by (Some (Read n, before)) = if read_is_ready n before then None else Some n
awaited_by last = None

-- for how many bytes the reader waits, where its last call is a read that was answered Pending
abbrev pub awaited : List Call → Option ℕ
awaited h = awaited_by (last_of 1 h)

-- whether who waits for at least so many bytes, one or more, would wait again
abbrev pub lacks : Option ℕ → List Call → Bool
lacks None h = false
lacks (Some n) h = nat_lt 0 n && not (read_is_ready n h)

-- The reader waits for at least one byte, or more, and that read would wait again.
abbrev pub is_starved : List Call → Bool
is_starved h = lacks (awaited h) h
