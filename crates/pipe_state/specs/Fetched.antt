-- What of a pipe's segments lies with the reader, and what arrives there.
use Rattle.std.specs.Prelude.{◌≡◌, ◌≤◌, ℕ, Bool, false, is_some, List, [], ◌∷◌, ◌++◌, length, map, Option, Some, None, IfSome}
use Rattle.seg_block.specs.Words.{Part, front_part, front_id, front_size, mark_part, marked, note_part, id_of, size_of, identity_of, seen}
use Rattle.seg_block.specs.declared.front.SegFront.{SegFront}
use Rattle.seg_block.specs.declared.tail.Mark.{Mark}
use Rattle.seg_block.specs.declared.tail.TailEnd.{TailEnd}
use Rattle.seg_block.specs.declared.tail.TailEnd.TheVariants.{Last, Note}
use Rattle.pipe_state.specs.declared.arrival.Arrival.{Arrival}
use Rattle.pipe_state.specs.declared.arrival.Link.{Link}

-- Which segment it is: its parting, which tells its memory, its number, and how many bytes it has.
pub record Label : Type 0 where
  pub part : Part
  pub id : ℕ
  pub size : ℕ

abbrev pub label_of : SegFront → Label
label_of front = record { part = front_part front; id = front_id front; size = front_size front }

-- A segment as the reader has it: what was committed in it so far, and whether the writer has finished it.
pub record Fetched : Type 0 where
  pub label : Label
  pub bytes : List ℕ
  pub finished : Bool

-- a front of which the reader knows no more than what it has seen
abbrev pub fetched_front : SegFront → Fetched
fetched_front front = record { label = label_of front; bytes = seen front; finished = false }

abbrev pub fetched_of : Link → Fetched
fetched_of link = record { label = label_of link.front; bytes = seen link.front; finished = is_some link.end }

abbrev pub all_fetched : List Link → List Fetched
all_fetched links = map fetched_of links

-- The tail of a segment ended so.
abbrev pub IsEnd : Label → TailEnd → Type 0
IsEnd label (Last block) = (id_of block ≡ label.id) × (size_of block ≡ label.size) × (identity_of block ≡ label.part.0)
IsEnd label (Note note) = note_part note ≡ label.part

-- The mark is of this segment, which was not finished, and stands for no less than was seen; and so its tail ended, where it did.
pub record Continues (segment : Fetched) (mark : Mark) (end : Option TailEnd) : Type 0 where
  pub part : mark_part mark ≡ segment.label.part
  pub longer : length segment.bytes ≤ length (marked mark)
  pub going : segment.finished ≡ false
  pub ends : IfSome end (IsEnd segment.label)

-- the segment once all is seen that the mark stands for
abbrev pub continued : Fetched → Mark → Option TailEnd → Fetched
continued segment mark end = record { label = segment.label; bytes = marked mark; finished = is_some end }

-- the same of the last segment
abbrev pub continue_last : List Fetched → Mark → Option TailEnd → List Fetched
continue_last [] mark end = []
continue_last (segment ∷ []) mark end = continued segment mark end ∷ []
continue_last (segment ∷ next ∷ fetched) mark end = segment ∷ continue_last (next ∷ fetched) mark end

abbrev pub FitsLast : List Fetched → Mark → Option TailEnd → Type 0
FitsLast [] mark end = ⊥
FitsLast (segment ∷ []) mark end = Continues segment mark end
FitsLast (segment ∷ next ∷ fetched) mark end = FitsLast (next ∷ fetched) mark end

-- What is done to a segment fits behind what the reader has: it is the next one, or the last one goes on.
abbrev pub Fits : List Fetched → Option SegFront → Mark → Option TailEnd → Type 0
Fits fetched (Some front) mark end = Continues (fetched_front front) mark end
Fits fetched None mark end = FitsLast fetched mark end

-- what the reader has once it has heard of that
abbrev pub arrived : List Fetched → Option SegFront → Mark → Option TailEnd → List Fetched
arrived fetched (Some front) mark end = fetched ++ continued (fetched_front front) mark end ∷ []
arrived fetched None mark end = continue_last fetched mark end

-- and once it has heard of all of it
abbrev pub arrive : List Fetched → List Arrival → List Fetched
arrive fetched [] = fetched
arrive fetched (a ∷ arrivals) = arrive (arrived fetched a.front a.mark a.end) arrivals

abbrev pub AllFit : List Fetched → List Arrival → Type 0
AllFit fetched [] = Unit {0}
AllFit fetched (a ∷ arrivals) = Fits fetched a.front a.mark a.end × AllFit (arrived fetched a.front a.mark a.end) arrivals

-- the arrivals once more was done to the last segment: its arrival tells so, and where it has none there is one more
abbrev pub renewed : List Arrival → Mark → Option TailEnd → List Arrival
renewed [] mark end = record { front = None; mark = mark; end = end } ∷ []
renewed (a ∷ []) mark end = record { front = a.front; mark = mark; end = end } ∷ []
renewed (a ∷ b ∷ arrivals) mark end = a ∷ renewed (b ∷ arrivals) mark end

-- the arrivals once something was done to the next segment or to the last one
abbrev pub put : List Arrival → Option SegFront → Mark → Option TailEnd → List Arrival
put arrivals (Some front) mark end = arrivals ++ record { front = Some front; mark = mark; end = end } ∷ []
put arrivals None mark end = renewed arrivals mark end
