-- What each end has of a pipe's segments, as what they share knows it.
use Rattle.std.specs.Prelude.{◌≡◌, ℕ, Bool, false, is_none, List, [], ◌∷◌, Option, Some, None, if◌then◌else◌}
use Rattle.seg_block.specs.Words.{tail_part, tail_id, tail_size, published, draft, spare, seen}
use Rattle.seg_block.specs.declared.tail.SegTail.{SegTail}
use Rattle.seg_block.specs.declared.front.SegFront.{SegFront}
use Rattle.pipe_state.specs.Fetched.{Fetched, Label, all_fetched, label_of}
use Rattle.pipe_state.specs.Chains.{ChainState}

-- The segments that the reader has, and how many bytes of the first are consumed.
pub record ReaderHas : Type 0 where
  pub segments : List Fetched
  pub skip : ℕ

abbrev pub reader_has : ChainState → ReaderHas
reader_has chain = record { segments = all_fetched chain.links; skip = chain.skip }

-- A segment that the writer has not finished: which it is, what was committed in it, and whether its front was sent to the reader.
pub record Unfinished : Type 0 where
  pub label : Label
  pub bytes : List ℕ
  pub sent : Bool

-- Those that the writer has, in the order in which it fills them, and the greatest hint for which it left one.
pub record WriterHas : Type 0 where
  pub segments : List Unfinished
  pub hint : ℕ

-- nothing was committed in it
abbrev pub IsUnsent : Unfinished → Type 0
IsUnsent u = (u.sent ≡ false) × (u.bytes ≡ [])

-- the one that the reader has, or is to get: the first alone may be sent
abbrev pub going_of : List Unfinished → List Fetched
going_of [] = []
going_of (u ∷ unfinished) = if u.sent then record { label = u.label; bytes = u.bytes; finished = false } ∷ [] else []

-- the others
abbrev pub unsent_of : List Unfinished → List Unfinished
unsent_of [] = []
unsent_of (u ∷ unfinished) = if u.sent then unfinished else u ∷ unfinished

-- A segment as the writer has it: which it is, what was committed in it, what is drafted behind that, the free part, and
-- whether its front was sent.
pub record FillingState : Type 0 where
  pub label : Label
  pub bytes : List ℕ
  pub draft : List ℕ
  pub spare : List ℕ
  pub sent : Bool

abbrev pub tail_label : SegTail → Label
tail_label tail = record { part = tail_part tail; id = tail_id tail; size = tail_size tail }

abbrev pub filling_of : SegTail → Option SegFront → FillingState
filling_of tail front = record { label = tail_label tail; bytes = published tail; draft = draft tail; spare = spare tail; sent = is_none front }

-- A front that was not sent is that of the tail, and nothing was committed yet.
abbrev pub IsFilling : SegTail → Option SegFront → Type 0
IsFilling tail None = Unit {0}
IsFilling tail (Some front) = (label_of front ≡ tail_label tail) × (seen front ≡ []) × (published tail ≡ [])

abbrev pub unfinished_of : FillingState → Unfinished
unfinished_of f = record { label = f.label; bytes = f.bytes; sent = f.sent }
