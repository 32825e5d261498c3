-- Which segments go home once bytes are given up, and what stays.
use Rattle.std.specs.Prelude.{◌≡◌, ◌-◌, ℕ, Bool, true, false, ◌&&◌, nat_le, List, [], ◌∷◌, length, map, if◌then◌else◌}
use Rattle.std.specs.List.{flat_map}
use denote.RawPtr.{Ptr}
use Rattle.seg_block.specs.Words.{id_of, size_of, identity_of}
use Rattle.seg_block.specs.declared.block.Block.{Block}
use Rattle.pipe_state.specs.Fetched.{Fetched, Label}

-- A block by its number, its memory and how many bytes it has.
pub record BlockName : Type 0 where
  pub id : ℕ
  pub identity : Ptr
  pub size : ℕ

abbrev pub name_of : Block → BlockName
name_of block = record { id = id_of block; identity = identity_of block; size = size_of block }

abbrev pub names_of : List Block → List BlockName
names_of blocks = map name_of blocks

abbrev pub block_in : Label → BlockName
block_in label = record { id = label.id; identity = label.part.0; size = label.size }

abbrev pub blocks_in : List Fetched → List BlockName
blocks_in segments = map (λ s. block_in s.label) segments

abbrev pub bytes_in : List Fetched → List ℕ
bytes_in segments = flat_map (λ s. s.bytes) segments

-- all but the last are finished
abbrev pub FinishedBefore : List Fetched → Type 0
FinishedBefore [] = Unit {0}
FinishedBefore (s ∷ []) = Unit {0}
FinishedBefore (s ∷ t ∷ segments) = (s.finished ≡ true) × FinishedBefore (t ∷ segments)

-- whether a segment goes home where so many bytes are consumed, counted from its first: it is finished, and consumed whole
abbrev pub goes_home : ℕ → Fetched → Bool
goes_home n s = s.finished && nat_le (length s.bytes) n

-- whether the first of some does
abbrev pub first_goes : ℕ → List Fetched → Bool
first_goes n [] = false
first_goes n (s ∷ segments) = goes_home n s

-- the segments that stay
abbrev pub left_after : ℕ → List Fetched → List Fetched
left_after n [] = []
left_after n (s ∷ segments) = if goes_home n s then left_after (n - length s.bytes) segments else s ∷ segments

-- how many bytes of these are consumed
abbrev pub skip_after : ℕ → List Fetched → ℕ
skip_after n [] = n
skip_after n (s ∷ segments) = if goes_home n s then skip_after (n - length s.bytes) segments else n
