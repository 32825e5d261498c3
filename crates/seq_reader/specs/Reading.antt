-- What a contract sees of a reader.
use Rattle.std.specs.Prelude.{ℕ, ◌+◌, Bool, nat_le, List, length, take, drop, Option, None, Some, if◌then◌else◌}
use Rattle.span_seq.specs.Spans.{Part, bytes_of}

-- The part of some spans that it reads, and how many of its bytes it has passed.
pub record Reading : Type 0 where
  pub part : Part
  pub place : ℕ

-- All the bytes that it reads.
abbrev pub list_of : Reading → List ℕ
list_of r = bytes_of r.part

-- The bytes that it hasn't passed.
abbrev pub rest_of : Reading → List ℕ
rest_of r = drop r.place (list_of r)

-- The part that it hasn't passed.
abbrev pub rest_part : Reading → Part
rest_part r = record r.part { from = r.part.from + r.place }

-- The next n bytes, as a part.
abbrev pub next_part : Reading → ℕ → Part
next_part r n = record r.part { from = r.part.from + r.place; to = r.part.from + r.place + n }

-- The reader behind the next n bytes.
abbrev pub moved : Reading → ℕ → Reading
moved r n = record r { place = r.place + n }

-- The reader at a byte that was found at an index of the rest, or past that byte. Where none was found it stays.
abbrev pub moved_to : Reading → Option ℕ → Bool → Reading
moved_to r None past = r
moved_to r (Some index) past = moved r (if past then index + 1 else index)

-- The first n bytes of a list that has as many.
abbrev pub front : ℕ → List ℕ → Option (List ℕ)
front n bytes = if nat_le n (length bytes) then Some (take n bytes) else None

-- How many bytes of n were read.
abbrev pub read_of : {X : Type 0} → Option X → ℕ → ℕ
read_of None n = 0
read_of (Some value) n = n
