-- The memory of a block: one word, and then the bytes of the segment.
use Rattle.std.specs.Prelude.{ℕ, ◌+◌, ◌/◌, ◌*◌, ◌≤◌, ◌<◌, ◌^◌, List}
use Rattle.std.specs.Borrow.{full_share}
use mir.Syntax.{Ty, w8, w64, ty_int, ty_array}
use mir.Val.{vint}
use base.Fml.{Fml, ftrue, fsep, fwand, fex, fat, froom}
use denote.RattleType.{RattleType}
use denote.Builtin.{u64}
use denote.RawPtr.{Ptr, InBlock, block_of, count_of, ◌+ₚ◌}
use denote.RawPtr.Bytes.{bytes}
use Rattle.core.specs.Mem.{type_size}
use Rattle.core.specs.Allocator.{owned_block, array_of}
use Rattle.libc.specs.Heap.{chunk}

-- the sizes of a segment, in bytes
abbrev pub IsBlockSize : ℕ → Type 0
IsBlockSize size = (1 ≤ size) × (size ≤ 65536)

-- how many words of eight bytes the memory of a segment has: the watermark, and the bytes
abbrev pub words_of : ℕ → ℕ
words_of size = 1 + (size + 7) / 8

-- where byte k of a segment lies
abbrev pub place : Ptr → ℕ → Ptr
place base k = base +ₚ (8 + k)

-- a fact, as a formula
abbrev pub known : Type 0 → Fml
known φ = fex φ (λ _. ftrue)

-- the bytes xs at p
abbrev pub run_owns : Ptr → List ℕ → Fml
run_owns p xs = bytes full_share xs (block_of p) (count_of p)

-- the bytes xs of the segment at base, from byte k on
abbrev pub bytes_at : Ptr → ℕ → List ℕ → Fml
bytes_at base k xs = bytes full_share xs (block_of base) (count_of base + (8 + k))

-- the watermark, and room for it
abbrev pub word : Ptr → ℕ → Fml
word base n = fat full_share (ty_int w64) (block_of base) (count_of base) (vint w64 n)

abbrev pub word_room : Ptr → Fml
word_room base = froom (ty_int w64) (block_of base) (count_of base)

-- room for the bytes
abbrev pub bytes_room : Ptr → ℕ → Fml
bytes_room base size = froom (ty_array (ty_int w8) size) (block_of base) (count_of base + 8)

-- n values take fewer than 2 ^ 63 bytes, and n is below 2 ^ 63
abbrev pub Fits : RattleType → ℕ → Type 0
Fits R n = (n * type_size R < 2 ^ 63) × (n < 2 ^ 63)

-- room for n values at p, and the right, t's, to free it
abbrev pub land_owns : (Ty → Ptr → Fml) → RattleType → Ptr → ℕ → Fml
land_owns t R p n = fsep (known (Fits R n)) (owned_block t (array_of R n) p)

-- the way back from the word and the bytes to one block of the allocator
abbrev pub way_back : Ptr → ℕ → Fml
way_back base size = fwand (fsep (word_room base) (bytes_room base size)) (land_owns chunk u64 base (words_of size))

abbrev pub IsPlaced : Ptr → ℕ → Type 0
IsPlaced base size = InBlock base × IsBlockSize size

-- a block that is not parted, apart from its bytes
abbrev pub home_owns : Ptr → ℕ → Fml
home_owns base size = fsep (known (IsPlaced base size)) (fsep (word_room base) (way_back base size))
