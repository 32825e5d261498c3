-- Short words for the worked cases.
use Rattle.std.specs.Prelude.{ℕ, List, [], ◌∷◌}
use Rattle.span_seq.specs.Spans.{Part}

-- The spans `ab`, `c` and a line feed, an empty one, `de`.
abbrev pub four_spans : List (List ℕ)
four_spans = (97 ∷ 98 ∷ []) ∷ (99 ∷ 10 ∷ []) ∷ [] ∷ (100 ∷ 101 ∷ []) ∷ []

abbrev pub from_to : ℕ → ℕ → Part
from_to from to = record { spans = four_spans; from = from; to = to }
