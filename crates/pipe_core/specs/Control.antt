-- What a control reads off its marks.
use Rattle.std.specs.Prelude.{ℕ, ◌+◌, ◌-◌, ◌^◌, ◌≤◌, Bool, false, not, ◌&&◌, ◌||◌, nat_lt, nat_le, is_some, is_none, Option, Some, None, if◌then◌else◌}
use Rattle.pipe_core.specs.declared.marks.Marks.{Marks}
use Rattle.pipe_core.specs.declared.reply.Wake.{Wake}

-- What was consumed and what was examined is committed.
abbrev pub AreInOrder : Marks → Type 0
AreInOrder m = (m.consumed ≤ m.committed) × (m.examined ≤ m.committed)

-- whether a read for at least n bytes would be ready
abbrev pub reads_now : ℕ → Marks → Bool
reads_now n m = m.read_canceled || is_some m.ended || (nat_lt 0 (m.committed - m.examined) && nat_le n (m.committed - m.consumed))

-- whether who waits for at least so many bytes, one or more, would wait again
abbrev pub lacks_now : Option ℕ → Marks → Bool
lacks_now None m = false
lacks_now (Some n) m = nat_lt 0 n && not (reads_now n m)

-- whether a pause that stood goes on by these marks
abbrev pub lasts_now : Marks → Bool
lasts_now m = nat_le m.resume (m.committed - m.examined) && not (lacks_now m.awaited m)

-- whether a pause stands after a commit that leaves these marks
abbrev pub pauses_now : Marks → Bool
pauses_now m = nat_lt 0 m.pause && is_none m.gone && (lasts_now m && (nat_le m.pause (m.committed - m.examined) || m.paused))

-- whether a flush is ready
abbrev pub flush_goes : Bool → Option ℕ → Bool → Bool
flush_goes canceled gone paused = canceled || is_some gone || not paused

-- whether a flush of nothing would be ready
abbrev pub flushes_now : Marks → Bool
flushes_now m = flush_goes m.flush_canceled m.gone (pauses_now m)

-- whether a read that waits for so many bytes was not ready before and is now
abbrev pub readies : Option ℕ → Marks → Marks → Bool
readies None before after = false
readies (Some n) before after = not (reads_now n before) && reads_now n after

-- which waiting end was not ready before and is now
abbrev pub woken : Marks → Marks → Wake
woken before after = record {
  reader = readies before.awaited before after;
  writer = before.writer_waits && not (flushes_now before) && flushes_now after;
}

-- the total after a commit of n bytes, which nobody counts once the reader is gone
abbrev pub total_with : Marks → ℕ → Option ℕ
total_with m n = if is_some m.gone then Some m.committed else if nat_lt (2 ^ 62) (m.committed + n) then None else Some (m.committed + n)
