-- What contracts see of a block, of its two ends, and of what they hand out.
use Rattle.std.specs.Prelude.{◌≡◌, ℕ, List, take, drop}
use Rattle.std.specs.Borrow.{Array, MutBor, u8}
use Rattle.std.specs.Vec.{with_items_from}
use base.Fml.{Fml}
use denote.Follow.{follows}
use denote.RawPtr.{Ptr}
use Rattle.seg_block.specs.Rule.{Names}
use Rattle.seg_block.specs.declared.block.Block.{Block}
use Rattle.seg_block.specs.declared.tail.SegTail.{SegTail}
use Rattle.seg_block.specs.declared.tail.Mark.{Mark}
use Rattle.seg_block.specs.declared.tail.TailNote.{TailNote}
use Rattle.seg_block.specs.declared.tail.TailEnd.{TailEnd}
use Rattle.seg_block.specs.declared.tail.TailEnd.TheVariants as OfTail
use Rattle.seg_block.specs.declared.front.SegFront.{SegFront}
use Rattle.seg_block.specs.declared.front.FrontNote.{FrontNote}
use Rattle.seg_block.specs.declared.front.FrontEnd.{FrontEnd}
use Rattle.seg_block.specs.declared.front.FrontEnd.TheVariants as OfFront
use Rattle.seg_block.specs.contracts.tail.SegTail.{the_row}

-- the number that a block was made with
abbrev pub id_of : Block → ℕ
id_of b = b.id

-- how many bytes a block has
abbrev pub size_of : Block → ℕ
size_of b = b.size

-- which memory a block is
abbrev pub identity_of : Block → Ptr
identity_of b = b.home.base

abbrev pub tail_id : SegTail → ℕ
tail_id t = t.id

abbrev pub tail_size : SegTail → ℕ
tail_size t = t.size

abbrev pub tail_identity : SegTail → Ptr
tail_identity t = t.gate.base

abbrev pub front_id : SegFront → ℕ
front_id f = f.id

abbrev pub front_size : SegFront → ℕ
front_size f = f.size

abbrev pub front_identity : SegFront → Ptr
front_identity f = f.gate.base

-- which parting an end, a mark or a note belongs to. It tells the memory too
abbrev pub Part : Type 0
Part = Ptr × Names

abbrev pub tail_part : SegTail → Part
tail_part t = (t.gate.base, t.gate.names)

abbrev pub front_part : SegFront → Part
front_part f = (f.gate.base, f.gate.names)

abbrev pub mark_part : Mark → Part
mark_part m = (m.known.base, m.known.names)

abbrev pub note_part : TailNote → Part
note_part n = (n.known.base, n.known.names)

abbrev pub front_note_part : FrontNote → Part
front_note_part n = (n.known.base, n.known.names)

-- what the tail has published
abbrev pub published : SegTail → List ℕ
published t = t.gate.log

-- what it will publish next
abbrev pub draft : SegTail → List ℕ
draft t = take t.drafted t.free.items

-- the free part
abbrev pub spare : SegTail → List ℕ
spare t = drop t.drafted t.free.items

-- what the front has seen of the published list
abbrev pub seen : SegFront → List ℕ
seen f = take f.shown f.gate.log

-- what was published at the commit of the mark that the front acquired last
abbrev pub acquired : SegFront → List ℕ
acquired f = f.start.log

-- what was published at the commit that gave the mark
abbrev pub marked : Mark → List ℕ
marked m = m.known.log

-- all that was published of a segment whose tail has ended
abbrev pub noted : TailNote → List ℕ
noted n = n.known.log

-- the same end, of the same parting of the same block
abbrev pub SameTail : SegTail → SegTail → Type 0
SameTail a b = (tail_part b ≡ tail_part a) × (tail_id b ≡ tail_id a) × (tail_size b ≡ tail_size a)

abbrev pub SameFront : SegFront → SegFront → Type 0
SameFront a b = (front_part b ≡ front_part a) × (front_id b ≡ front_id a) × (front_size b ≡ front_size a)

abbrev pub IsTailOf : SegTail → Block → Type 0
IsTailOf t b = (tail_id t ≡ id_of b) × (tail_size t ≡ size_of b) × (tail_identity t ≡ identity_of b)

abbrev pub IsFrontOf : SegFront → Block → Type 0
IsFrontOf f b = (front_id f ≡ id_of b) × (front_size f ≡ size_of b) × (front_identity f ≡ identity_of b)

-- the block that the tail is an end of
abbrev pub IsBlockOfTail : SegTail → Block → Type 0
IsBlockOfTail t b = (id_of b ≡ tail_id t) × (size_of b ≡ tail_size t) × (identity_of b ≡ tail_identity t)

abbrev pub IsTheBlock : SegFront → Block → Type 0
IsTheBlock f b = (id_of b ≡ front_id f) × (size_of b ≡ front_size f) × (identity_of b ≡ front_identity f)

-- what the tail answers when it ends
abbrev pub Ends : SegTail → TailEnd → Type 0
Ends t (OfTail.Last block) = IsBlockOfTail t block
Ends t (OfTail.Note note) = (note_part note ≡ tail_part t) × (noted note ≡ published t)

-- what holds of the note of a tail that ended first
abbrev pub IfNote : TailEnd → (TailNote → Type 0) → Type 0
IfNote (OfTail.Last block) P = Unit {0}
IfNote (OfTail.Note note) P = P note

-- what the front answers when it ends
abbrev pub FrontEnds : SegFront → FrontEnd → Type 0
FrontEnds f (OfFront.Last block) = IsTheBlock f block
FrontEnds f (OfFront.Early note) = front_note_part note ≡ front_part f

-- the tail of the segment that a front is of ended so
abbrev pub IsEndOf : SegFront → TailEnd → Type 0
IsEndOf f (OfTail.Last block) = IsTheBlock f block
IsEndOf f (OfTail.Note note) = note_part note ≡ front_part f

-- what holds of the note of a front that ended first
abbrev pub IfEarly : FrontEnd → (FrontNote → Type 0) → Type 0
IfEarly (OfFront.Last block) P = Unit {0}
IfEarly (OfFront.Early note) P = P note

-- t with ws as its free part
abbrev pub with_spare : SegTail → List ℕ → SegTail
with_spare t ws = record t { free = with_items_from t.free t.drafted ws }

-- the tail ends with the last bytes behind r as its free part
abbrev pub LendsSpare : MutBor SegTail → MutBor (List ℕ) → Fml
LendsSpare t r = follows the_row (Array u8 0) t.ghost_name r.ghost_name (with_spare t.now)
