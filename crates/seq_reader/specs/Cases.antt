-- Short words for the worked cases.
use Rattle.std.specs.Prelude.{ℕ, [], ◌∷◌}
use Rattle.span_seq.specs.Spans.{whole_of}
use Rattle.seq_reader.specs.Reading.{Reading}

-- A reader that has passed so many of the bytes 1 to 5, which lie in the spans `01 02`, an empty one, `03 04 05`.
abbrev pub five_bytes_at : ℕ → Reading
five_bytes_at place = record { part = whole_of ((1 ∷ 2 ∷ []) ∷ [] ∷ (3 ∷ 4 ∷ 5 ∷ []) ∷ []); place = place }

-- A reader that has passed so many of the bytes `ab`, `c` and a line feed, nothing, `de`.
abbrev pub line_at : ℕ → Reading
line_at place = record { part = whole_of ((97 ∷ 98 ∷ []) ∷ (99 ∷ 10 ∷ []) ∷ [] ∷ (100 ∷ 101 ∷ []) ∷ []); place = place }
