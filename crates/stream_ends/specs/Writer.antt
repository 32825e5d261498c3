-- A writer over a sink.
use Rattle.std.specs.Prelude.{ℕ, ◌≡◌, ◌+◌, Bool, false, List, [], ◌++◌, length, take, drop, Option, None, Result, Ok, Err}
use Rattle.std.specs.Io.KnownBytes.{Appends}
use Rattle.edge_core.specs.Device.{SinkState, Takes, TakesFront}
use Rattle.pipe_core.specs.declared.reply.FlushReply.{FlushReply}
use Rattle.pipe_core.specs.declared.reply.FlushReply.TheVariants.{Ready}
use Rattle.stream_ends.specs.declared.faults.WriteFault.{WriteFault}

-- The sink, the bytes that it is still to be given, the free part behind them, and whether a cancellation stands.
pub record WriterState : Type 0 where
  pub sink : SinkState
  pub draft : List ℕ
  pub free : List ℕ
  pub canceled : Bool

-- how many bytes a writer has room for
abbrev pub room_of : WriterState → ℕ
room_of w = length w.draft + length w.free

-- the first n bytes of the free part join the draft
abbrev pub advanced : WriterState → ℕ → WriterState
advanced w n = record w { draft = w.draft ++ take n w.free; free = drop n w.free }

-- Of these bytes, which were advanced in all, the sink, where it told at first what it had, was given just those that are not in the draft.
pub record HasWritten (first : Option (List ℕ)) (w : WriterState) (bytes : List ℕ) : Type 0 where
  pub given : List ℕ
  pub whole : bytes ≡ given ++ w.draft
  pub written : Appends first w.sink.written given

-- The draft was handed to the sink, or a front of it.
abbrev pub Writes : WriterState → Result (Unit {0}) WriteFault → WriterState → Type 0
Writes before (Ok done) after = Takes before.sink before.draft after.sink × (after.draft ≡ [])
Writes before (Err fault) after = TakesFront before.sink before.draft fault.taken after.sink × (after.draft ≡ drop fault.taken before.draft)

-- What a flush did. Where it failed, the bytes that the sink took have left the draft, and a cancellation stays.
abbrev pub Flushes : WriterState → Result FlushReply WriteFault → WriterState → Type 0
Flushes before (Ok reply) after = (reply ≡ Ready before.canceled None) × Takes before.sink before.draft after.sink × (after.draft ≡ []) × (after.canceled ≡ false)
Flushes before (Err fault) after = TakesFront before.sink before.draft fault.taken after.sink × (after.draft ≡ drop fault.taken before.draft) × (after.canceled ≡ before.canceled)
