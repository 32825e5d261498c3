-- The frame that is computed is the frame in words.
use Rattle.std.proofs.Common.{◌≡◌, ◌≢◌, ◌<◌, ◌-◌, ℕ, List, length, get_or, refl, sym, ◌∙◌, arith, inl, inr}
use Rattle.std.specs.Prelude.{IsNone, position, slice_index}
use Rattle.std.specs.List.{position_or_len}
use Rattle.std.proofs.lemmas.Bool.{cases_lt, lt-ltb, le-ltb, eqb-true, eqb-false}
use Rattle.std.proofs.lemmas.List.{append-nil}
use Rattle.std.proofs.lemmas.List.Sums.{fails_before_first, passes_at_first}
use Rattle.frame_model.specs.declared.framing.Framing.{Framing}
use Rattle.frame_model.specs.Heads.{Layout, Counted, Lines, layout}
use Rattle.frame_model.specs.Spelling.{is_line_feed, obstacle, obstacle_in, spelling, spelling_in, Spells, SpellsIn}
use Rattle.frame_model.proofs.LongestLemmas.{below_limit, no_line_feed_len}

clean_has_none : (p : List ℕ) → ((k : ℕ) → k < length p → slice_index p k ≢ 10) → IsNone (position is_line_feed p)
clean_has_none p clean =
    elim (cases_lt (position_or_len is_line_feed p) (length p)) [
      | inl lt ↦ absurd (clean (position_or_len is_line_feed p) lt (eqb-true _ 10 (passes_at_first is_line_feed p 0 lt)))
      | inr ge ↦ rw (le-ltb (position_or_len is_line_feed p) (length p) ge) refl
    ]

none_is_clean : (p : List ℕ) → IsNone (position is_line_feed p) → (k : ℕ) → k < length p → slice_index p k ≢ 10
none_is_clean p none k lt = eqb-false (get_or p k 0) 10 (fails_before_first is_line_feed p k 0 (omega (arith, no_line_feed_len p none, lt)))

spelt_in : (l : Layout) (p bytes : List ℕ) → SpellsIn l p bytes → IsNone (obstacle_in l p) × (bytes ≡ spelling_in l p)
spelt_in (Counted heads) p bytes s = (rw (lt-ltb (length p) heads.limit s.0) refl, s.1 ∙ sym (append-nil _))
spelt_in Lines p bytes s = (clean_has_none p s.0, s.1)

spells_in : (l : Layout) (p : List ℕ) → IsNone (obstacle_in l p) → SpellsIn l p (spelling_in l p)
spells_in (Counted heads) p none = (below_limit (length p) heads.limit (heads.limit - 1) none, append-nil _)
spells_in Lines p none = (none_is_clean p none, refl)

pub spelt : (f : Framing) (p bytes : List ℕ) → Spells f p bytes → IsNone (obstacle f p) × (bytes ≡ spelling f p)
spelt f = spelt_in (layout f)

pub spells : (f : Framing) (p : List ℕ) → IsNone (obstacle f p) → Spells f p (spelling f p)
spells f = spells_in (layout f)
