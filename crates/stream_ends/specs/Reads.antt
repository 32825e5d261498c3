-- What a read does: the reads of the source that it makes, and why it answers as it does.
use Rattle.std.specs.Prelude.{ℕ, suc, ◌≡◌, ◌<◌, ◌+◌, ◌-◌, ◌^◌, true, false, List, [], ◌∷◌, length, Option, Some, None, Result, Ok, Err, is_none, if◌then◌else◌}
use Rattle.std.specs.Io.KnownBytes.{IsAtEnd}
use Rattle.edge_core.specs.Device.{SourceState, Gives, Fails, HasRisen}
use Rattle.pipe_core.specs.History.{Call, Commit, EndWriter, Read, run_in}
use Rattle.pipe_core.specs.Progress.{total, held}
use Rattle.pipe_core.specs.Reads.{read_is_ready, reply_to_read}
use Rattle.pipe_core.specs.declared.reply.ReadReply.{ReadReply}
use Rattle.pipe_core.specs.declared.reply.ReadReply.TheVariants as read
use Rattle.pipe_core.specs.Pipe.{Pipe, HoldsFor, made_of}
use Rattle.stream_ends.specs.declared.faults.StreamFault.{StreamFault}
use Rattle.stream_ends.specs.declared.faults.StreamFault.TheVariants as fault
use Rattle.stream_ends.specs.Reader.{ReaderState, Stands, room_for}

-- A read for at least n bytes can't be answered, and there is room for more bytes: the source is to be read.
pub record IsDue (n most : ℕ) (h : List Call) : Type 0 where
  pub unready : read_is_ready n h ≡ false
  pub below : length (total h) < 2 ^ 62
  pub room : length (held h) < most

-- the call that tells what a read of the source gave: its bytes are committed, and where it gave none the writer completes
abbrev pub telling : List ℕ → Call
telling [] = EndWriter 0
telling (b ∷ bytes) = Commit (run_in 0 (b ∷ bytes))

-- One read of the source gave these bytes, and none only at its end.
pub record IsRead (before : SourceState) (bytes : List ℕ) (after : SourceState) : Type 0 where
  pub given : Gives before bytes after
  pub end : bytes ≡ [] → IsAtEnd after.left

-- Reads of the source, each made while it was due, and the calls that tell of them.
pub data Fills (n most : ℕ) (h : List Call) (s : SourceState) : List Call → SourceState → Type 0 where
  nothing : Fills n most h s h s
  more : (before : List Call) (middle after : SourceState) (bytes : List ℕ) → Fills n most h s before middle → IsDue n most before → IsRead middle bytes after
      → Fills n most h s (telling bytes ∷ before) after

-- how many reads of the source these are
abbrev pub reads_in : {n most : ℕ} {h : List Call} {s : SourceState} {filled : List Call} {after : SourceState} → Fills n most h s filled after → ℕ
reads_in nothing = 0
reads_in (more before middle after bytes fills due read) = suc (reads_in fills)

-- Why a read for at least n bytes is answered so in h, and what its last call of the source did, where that failed.
abbrev pub IsWhy : ℕ → ℕ → List Call → SourceState → Result ReadReply StreamFault → SourceState → Type 0
IsWhy n most h before (Ok reply) after = (read_is_ready n h ≡ true) × (reply ≡ reply_to_read n h) × (after ≡ before)
IsWhy n most h before (Err (fault.TooMuch sum)) after = (read_is_ready n h ≡ false) × (sum ≡ length (total h)) × (sum ≡ 2 ^ 62) × (after ≡ before)
IsWhy n most h before (Err (fault.Full count)) after =
    (read_is_ready n h ≡ false) × (length (total h) < 2 ^ 62) × (count ≡ length (held h)) × (count ≡ most) × (after ≡ before)
IsWhy n most h before (Err fault.ReadFault) after = IsDue n most h × Fails before after

-- the history after a read that was answered so: a fault makes no call
abbrev pub read_in : ℕ → Result ReadReply StreamFault → List Call → List Call
read_in n (Ok reply) h = Read n ∷ h
read_in n (Err fault) h = h

-- A read for at least n bytes, in h.
pub record ReadsIn (first : Option (List ℕ)) (n : ℕ) (before : ReaderState) (result : Result ReadReply StreamFault) (after : ReaderState) (h : List Call) : Type 0 where
  pub filled : List Call
  pub middle : SourceState
  pub fills : Fills n (room_for before) h before.source filled middle
  pub why : IsWhy n (room_for before) filled middle result after.source
  pub stands : Stands first after (read_in n result filled)

-- what a read lends
abbrev pub lent_by : Result ReadReply StreamFault → Option ℕ
lent_by (Ok (read.Ready canceled ended len)) = Some len
lent_by (Ok (read.Pending examined count)) = None
lent_by (Err fault) = None

-- A read isn't answered Pending.
abbrev pub IsReady : ReadReply → Type 0
IsReady (read.Ready canceled ended len) = Unit {0}
IsReady (read.Pending examined count) = ⊥

-- A source's count of faults rises with a read that tells of one, and with no other.
abbrev pub CountsFault : Result ReadReply StreamFault → ℕ → ℕ → Type 0
CountsFault (Ok reply) before after = after ≡ before
CountsFault (Err fault.ReadFault) before after = HasRisen before after
CountsFault (Err (fault.Full count)) before after = after ≡ before
CountsFault (Err (fault.TooMuch sum)) before after = after ≡ before

-- One read of the source by a reader that stands for h, where a read for at least n bytes isn't ready.
abbrev pub FillsOnce : Option (List ℕ) → ℕ → ReaderState → Result (Unit {0}) StreamFault → ReaderState → List Call → Type 0
FillsOnce first n before (Ok done) after h = IsDue n (room_for before) h × ((bytes : List ℕ) × IsRead before.source bytes after.source × Stands first after (telling bytes ∷ h))
FillsOnce first n before (Err fault) after h = IsWhy n (room_for before) h before.source (Err fault) after.source × Stands first after h

-- A reader that stands for h finds room to read its source for, or why not.
abbrev pub FindsRoom : ℕ → ℕ → List Call → SourceState → Result ℕ StreamFault → Type 0
FindsRoom n most h source (Ok room) = IsDue n most h
FindsRoom n most h source (Err fault) = IsWhy n most h source (Err fault) source

-- So far a read for at least n bytes has read the source so.
pub record HasFilled (first : Option (List ℕ)) (n : ℕ) (before now : ReaderState) (h : List Call) : Type 0 where
  pub filled : List Call
  pub fills : Fills n (room_for before) h before.source filled now.source
  pub stands : Stands first now filled

-- how many bytes the writer may still commit, and whether it may complete
abbrev pub reads_left : Pipe → ℕ
reads_left p = (2 ^ 62 - p.control.committed) + (if is_none p.control.ended then 1 else 0)

-- A pipe was told of a read by one call. What it was made with stays, and its lend and its reader do.
pub record IsTold (call : Call) (before after : Pipe) : Type 0 where
  pub stands : (h : List Call) → HoldsFor before h → HoldsFor after (call ∷ h)
  pub made : made_of after ≡ made_of before
  pub lent : after.control.lent ≡ before.control.lent
  pub gone : after.control.gone ≡ before.control.gone
  pub no_draft : after.bytes.draft ≡ []
  pub less : reads_left after < reads_left before
