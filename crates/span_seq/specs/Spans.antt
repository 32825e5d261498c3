-- Parts of concatenated spans.
use Rattle.std.specs.Prelude.{ℕ, ◌≡◌, ◌+◌, ◌-◌, ◌<◌, ◌≤◌, Bool, nat_lt, List, [], ◌∷◌, length, take, drop, filter, slice_index_or, slice_range}
use Rattle.std.specs.List.{concat}

-- A part of the concatenated spans, from one place in them up to another.
pub record Part : Type 0 where
  pub spans : List (List ℕ)
  pub from : ℕ
  pub to : ℕ

-- How many bytes the spans have in all.
abbrev pub size_of : List (List ℕ) → ℕ
size_of spans = length (concat spans)

-- All of the spans.
abbrev pub whole_of : List (List ℕ) → Part
whole_of spans = record { spans = spans; from = 0; to = size_of spans }

-- The bytes of a part.
abbrev pub bytes_of : Part → List ℕ
bytes_of part = slice_range (concat part.spans) part.from part.to

-- A part's start isn't past its end, nor its end past the last span.
pub record IsPart (part : Part) : Type 0 where
  pub ordered : part.from ≤ part.to
  pub within : part.to ≤ size_of part.spans

-- A place is in a part where it isn't before its start nor past its end.
abbrev pub Holds : Part → ℕ → Type 0
Holds part place = (part.from ≤ place) × (place ≤ part.to)

-- The spans behind the first n bytes.
abbrev pub skip : ℕ → List (List ℕ) → List (List ℕ)
skip n [] = []
skip n (span ∷ spans) = drop n span ∷ skip (n - length span) spans

-- The spans up to n bytes.
abbrev pub keep : ℕ → List (List ℕ) → List (List ℕ)
keep n [] = []
keep n (span ∷ spans) = take n span ∷ keep (n - length span) spans

abbrev pub has_bytes : List ℕ → Bool
has_bytes span = nat_lt 0 (length span)

-- What a part has of each span, in order, but for the spans of which it has nothing.
abbrev pub spans_of : Part → List (List ℕ)
spans_of part = filter has_bytes (keep (part.to - part.from) (skip part.from part.spans))

-- ---- where a byte lies

-- The place `offset` bytes behind the start of the span at `index`.
abbrev pub place_of : List (List ℕ) → ℕ → ℕ → ℕ
place_of spans index offset = length (concat (take index spans)) + offset

-- A place lies in the span at `index`, behind `skip` bytes of it, or at its end.
pub record IsAt (spans : List (List ℕ)) (place index skip : ℕ) : Type 0 where
  pub found : place_of spans index skip ≡ place
  pub index_within : index ≤ length spans
  pub skip_within : skip ≤ length (slice_index_or spans index [])

-- The byte at a place lies in the span at `index`, behind `skip` bytes of it.
pub record IsAtByte (spans : List (List ℕ)) (place index skip : ℕ) : Type 0 where
  pub found : place_of spans index skip ≡ place
  pub index_within : index < length spans
  pub skip_within : skip < length (slice_index_or spans index [])
