-- What of a pipe's segments lies with the writer.
use Rattle.std.specs.Prelude.{◌≡◌, ◌≤◌, ◌<◌, ◌+◌, ◌*◌, ◌^◌, ◌⊎◌, ◌-◌, ℕ, List, [], ◌∷◌, ◌++◌, length, drop, map, max}
use Rattle.std.specs.List.{AllByRecursion}
use Rattle.circular_buffer.specs.Buffer.{Buffer, buffer}
use Rattle.pipe_core.specs.History.{Run, bytes_of}
use Rattle.pipe_state.specs.Sides.{FillingState, WriterHas, IsUnsent, going_of, unfinished_of}
use Rattle.pipe_state.specs.Lying.{runs_of}
use Rattle.pipe_state.specs.Released.{BlockName, bytes_in}
use Rattle.pipe_state.specs.Segments.{AreFilled, SegmentsState, with_finished, without_first}
use Rattle.pipe_state.specs.Current.{HasDraft, IsSound, drafts_in, list_of}
use Rattle.pipe_state.specs.declared.filling.Filling.{Filling}
use Rattle.pipe_state.specs.declared.current.Current.{Current}

-- What is drafted, run by run, the free part behind it, or nothing where there is no segment, which segments it has, by which name
-- what the ends share knows it, and how many segments of how many bytes the pipe has.
pub record WritingState : Type 0 where
  pub draft : List Run
  pub free : List ℕ
  pub has : WriterHas
  pub name : ℕ
  pub count : ℕ
  pub size : ℕ

-- It has so many bytes, and no more are drafted.
abbrev pub IsSized : ℕ → FillingState → Type 0
IsSized size f = (f.label.size ≡ size) × (length f.draft ≤ size)

-- It was left with a draft, and for want of room for a hint.
abbrev pub IsLeft : ℕ → FillingState → Type 0
IsLeft hint f = HasDraft f × (f.label.size < length f.bytes + length f.draft + hint)

pub record IsWriting (left : Buffer Filling) (current : Current) (drafted count size : ℕ) (has : WriterHas) : Type 0 where
  pub told : has.segments ≡ map unfinished_of (left.items ++ list_of current)
  pub unsent : AllByRecursion IsUnsent (drop 1 has.segments)
  pub sound : IsSound left.items current
  pub left_full : AllByRecursion (IsLeft has.hint) left.items
  pub sizes : AllByRecursion (IsSized size) (left.items ++ list_of current)
  pub counted : drafted ≡ length (bytes_of (drafts_in (left.items ++ list_of current)))
  pub room : left.capacity ≡ count
  pub few : length (left.items ++ list_of current) ≤ count
  pub small : count * size ≤ 2 ^ 62

-- A segment that the writer filled was left with its draft, or finished where it had none.
abbrev pub SetsAside : FillingState → Buffer Filling → SegmentsState → WriterHas → Buffer Filling → SegmentsState → WriterHas → Type 0
SetsAside f left segments has left' segments' has' =
    (HasDraft f × (left' ≡ buffer (left.items ++ f ∷ []) left.capacity) × (segments' ≡ segments) × (has' ≡ has))
    ⊎ ((f.draft ≡ []) × (left' ≡ left) × (segments' ≡ with_finished f segments) × (has' ≡ without_first has))

-- The segments that the writer has not finished have at least so many bytes each, committed and drafted, all added up; and those
-- behind the first so many drafted ones.
pub record TakeUp (least : ℕ) (w : WritingState) : Type 0 where
  pub all : length w.has.segments * least ≤ length (bytes_in (going_of w.has.segments)) + length (bytes_of w.draft)
  pub behind : (length w.has.segments - 1) * least ≤ length (bytes_of w.draft)

-- The writer fills another segment, of which all bytes are free. What was committed stays where it lies, and a segment that is
-- finished now has too little room.
pub record TakesNext (hint n : ℕ) (w : WritingState) (s : SegmentsState) (w' : WritingState) (s' : SegmentsState) : Type 0 where
  pub free_len : n ≡ length w'.free
  pub whole : n ≡ w.size
  pub writing : w' ≡ record w { free = w'.free; has = w'.has }
  pub hint_is : w'.has.hint ≡ max w.has.hint hint
  pub first : BlockName
  pub home : s.home ≡ first ∷ s'.home
  pub runs : runs_of s'.live ≡ runs_of s.live
  pub filled : AreFilled s.writer.hint s.live → AreFilled s'.writer.hint s'.live
  pub segments : s' ≡ record s { home = s'.home; live = s'.live; writer = s'.writer }
