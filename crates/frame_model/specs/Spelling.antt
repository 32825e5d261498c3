-- How a payload is spelt as a frame.
use Rattle.std.specs.Prelude.{ℕ, ◌≡◌, ◌≢◌, ◌<◌, ◌+◌, ◌-◌, ◌==◌, nat_lt, Bool, ⊤, List, [], ◌∷◌, ◌++◌, length, slice_index, Option, Some, None, position, if◌then◌else◌}
use Rattle.std.specs.List.{flat_map}
use Rattle.frame_model.specs.declared.framing.Framing.{Framing}
use Rattle.frame_model.specs.Heads.{Layout, Counted, Lines, layout}

-- The byte that ends a line.
abbrev pub is_line_feed : ℕ → Bool
is_line_feed b = b == 10

-- These bytes are the frame of this payload.
abbrev pub SpellsIn : Layout → List ℕ → List ℕ → Type 0
SpellsIn (Counted heads) p bytes = (length p < heads.limit) × (bytes ≡ heads.writes (length p) ++ p)
SpellsIn Lines p bytes = ((k : ℕ) → k < length p → slice_index p k ≢ 10) × (bytes ≡ p ++ 10 ∷ [])

abbrev pub Spells : Framing → List ℕ → List ℕ → Type 0
Spells f p bytes = SpellsIn (layout f) p bytes

-- What stands before a payload of this length.
abbrev pub head_in : Layout → ℕ → List ℕ
head_in (Counted heads) n = heads.writes n
head_in Lines n = []

abbrev pub head_of : Framing → ℕ → List ℕ
head_of f n = head_in (layout f) n

-- What stands behind a payload.
abbrev pub tail_in : Layout → List ℕ
tail_in (Counted heads) = []
tail_in Lines = 10 ∷ []

abbrev pub tail_of : Framing → List ℕ
tail_of f = tail_in (layout f)

-- The frame of a payload that has one.
abbrev pub spelling_in : Layout → List ℕ → List ℕ
spelling_in l p = head_in l (length p) ++ p ++ tail_in l

abbrev pub spelling : Framing → List ℕ → List ℕ
spelling f p = spelling_in (layout f) p

-- How long heads can be.
abbrev pub longest_head : Layout → ℕ
longest_head (Counted heads) = heads.longest
longest_head Lines = 0

-- How long the frame of a payload of at most `max` bytes can be.
abbrev pub longest_frame : Framing → ℕ → ℕ
longest_frame f max = longest_head (layout f) + max + length (tail_of f)

-- The length can be told by the framing.
abbrev pub FitsIn : Layout → ℕ → Type 0
FitsIn (Counted heads) n = n < heads.limit
FitsIn Lines n = ⊤

abbrev pub Fits : Framing → ℕ → Type 0
Fits f n = FitsIn (layout f) n

-- The index of the first byte for which a payload has no frame, or nothing where it has one.
abbrev pub obstacle_in : Layout → List ℕ → Option ℕ
obstacle_in (Counted heads) p = if nat_lt (length p) heads.limit then None else Some (heads.limit - 1)
obstacle_in Lines p = position is_line_feed p

abbrev pub obstacle : Framing → List ℕ → Option ℕ
obstacle f p = obstacle_in (layout f) p

-- The frames of payloads, one after the other.
abbrev pub text : Framing → List (List ℕ) → List ℕ
text f payloads = flat_map (spelling f) payloads
