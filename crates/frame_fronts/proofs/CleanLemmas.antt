-- What marks say of line feeds.
use Rattle.std.proofs.Common.{◌≡◌, ◌≢◌, ◌<◌, ◌≤◌, ◌+◌, ◌-◌, ◌↔◌, ℕ, Bool, true, false, eqb, List, length, take, drop, refl, sym, ap, ◌∙◌, arith, inl, inr}
use Rattle.std.specs.Prelude.{IsNone, position, slice_index}
use Rattle.std.specs.Int.{bit_at}
use Rattle.std.proofs.lemmas.Bool.{cases_Bool, cases_lt, eqb-true}
use Rattle.std.proofs.lemmas.List.{get_or-drop, get_or-take, length-drop, length-take}
use Rattle.byte_kernels.specs.Marks.{Marks}
use Rattle.byte_kernels.proofs.MarksLemmas.{bit_met, passed_group, unset_fails}
use Rattle.frame_model.specs.declared.framing.Framing.TheVariants.{Line}
use Rattle.frame_model.specs.Spelling.{is_line_feed, spelling}
use Rattle.frame_model.proofs.SpellingLemmas.{spells, spelt}
use Rattle.frame_fronts.specs.Fronts.{HasFeed, IsClear}

pub has_none : (p : List ℕ) → ((k : ℕ) → k < length p → slice_index p k ≢ 10) → IsNone (position is_line_feed p)
has_none p each = (spelt Line p (spelling Line p) (each, refl)).0

-- a part of some bytes has no line feed exactly where it is clear
pub part_is_clean : (x : List ℕ) (from n : ℕ) → IsClear x from (from + n) → IsNone (position is_line_feed (take n (drop from x)))
part_is_clean x from n each = has_none (take n (drop from x)) (λ k lt is.
    let below : k < n = omega (arith, lt, length-take n (drop from x)) in
    each (from + k) (omega arith) (omega (arith, below)) (sym (get_or-drop from x k 0) ∙ sym (get_or-take n (drop from x) k 0 below) ∙ is))

pub part_is_not : (x : List ℕ) (from n : ℕ) → from + n ≤ length x → HasFeed x from (from + n) → ¬ IsNone (position is_line_feed (take n (drop from x)))
part_is_not x from n within has none =
    let k = has.place - from in
    let below : k < n = omega (arith, has.low, has.high) in
    let place : from + k ≡ has.place = omega (arith, has.low) in
    (spells Line (take n (drop from x)) none).0 k (omega (arith, below, length-take n (drop from x), length-drop from x, within))
    (get_or-take n (drop from x) k 0 below ∙ get_or-drop from x k 0 ∙ ap (λ (i : ℕ). slice_index x i) place ∙ has.feed)

-- bytes of which no one is marked as a line feed
pub unmarked_clear : (x : List ℕ) (from count marks : ℕ) → Marks (λ place. eqb (slice_index x place) 10) from count marks → marks ≡ 0 → IsClear x from (from + count)
unmarked_clear x from count marks group none k low high is =
    passed_group group none {start = from} (λ j above below met. absurd (omega (arith, above, below))) k low high (rw is refl)

-- those before the lowest mark
pub marked_clear : (x : List ℕ) (from count marks least : ℕ) → Marks (λ place. eqb (slice_index x place) 10) from count marks → ((k : ℕ) → k < least → bit_at marks k ≡ 0) → (k : ℕ) → from ≤ k → k < from + count → k < from + least → slice_index x k ≢ 10
marked_clear x from count marks least group below k low high before is =
    unset_fails group k low high (below (k - from) (omega (arith, low, before))) (rw is refl)

-- and the one that it stands for
pub marked_feed : (x : List ℕ) (from count marks least to : ℕ) → Marks (λ place. eqb (slice_index x place) 10) from count marks → bit_at marks least ≡ 1 → from + least < to → HasFeed x from to
marked_feed x from count marks least to group set high = record {
  place = from + least;
  low = omega arith;
  high = high;
  feed = eqb-true (slice_index x (from + least)) 10 (bit_met group least set);
}

-- bytes in two parts
pub clear_more : (x : List ℕ) (from mid to : ℕ) → IsClear x from mid → IsClear x mid to → IsClear x from to
clear_more x from mid to front back k low high = elim (cases_lt k mid) [
  | inl lt ↦ front k low lt
  | inr ge ↦ back k ge high
]

pub clean_exactly : (x : List ℕ) (from done n : ℕ) (r : Bool) → from + n ≤ length x → done ≤ n → IsClear x from (from + done) → (r ≡ true → IsClear x (from + done) (from + done + (n - done))) → (r ≡ false → HasFeed x (from + done) (from + done + (n - done)))
    → (r ≡ true) ↔ IsNone (position is_line_feed (take n (drop from x)))
clean_exactly x from done n r within few front back feed = (
  λ yes. part_is_clean x from n (λ k low high. clear_more x from (from + done) (from + done + (n - done)) front (back yes) k low (omega (arith, high, few))),
  λ none. elim (cases_Bool r) [
    | inl here ↦ here
    | inr other ↦
        let has = feed other in
        absurd (part_is_not x from n within (record { place = has.place; low = omega (arith, has.low); high = omega (arith, has.high, few); feed = has.feed }) none)
  ],
)
