-- The lines of some bytes, by their number.
use Rattle.std.proofs.Common.{◌≡◌, ◌≢◌, ◌<◌, ◌≤◌, ◌+◌, ℕ, zero, suc, true, eqb, List, [], ◌∷◌, ◌++◌, length, take, drop, get_or, refl, sym, ap, ◌∙◌, arith, cond, inl, inr, min, nat_lt, None, Option, Some, position, subst}
use Rattle.std.specs.Prelude.{IsNone, slice_index}
use Rattle.std.specs.List.{AllByRecursion, count_by}
use Rattle.std.proofs.lemmas.Bool.{cases_Bool, eqb-true, eqb-false, ltb-false, ltb-true}
use Rattle.std.proofs.lemmas.Grind.{take_at_read}
use Rattle.std.proofs.lemmas.List.Sums.{fails_before_first, passes_at_first, position_or_len_is}
use Rattle.std.proofs.lemmas.List.{length-append, length-take, length-drop, take-append-drop, take-take, get_or-drop, get_or-take}
use Rattle.memchr.specs.Find.{NoneAfter, Nowhere}
use Rattle.byte_kernels.proofs.LaneLemmas.{count_parts}
use Rattle.frame_model.specs.declared.framing.Framing.TheVariants.{Line}
use Rattle.frame_model.specs.Spelling.{is_line_feed, obstacle, text}
use Rattle.frame_model.proofs.FrontLemmas.{chosen, line_from, line_is, line_len}
use Rattle.frame_fronts.specs.Fronts.{HasNoFrame, IsFront, IsWhole}
use Rattle.frame_fronts.proofs.CleanLemmas.{has_none}

-- no byte of it ends a line
abbrev IsClear : List ℕ → Type 0
IsClear p = (k : ℕ) → k < length p → slice_index p k ≢ 10

-- all bytes up to a line feed, as lines: the first and the others
record AreLines (z : List ℕ) : Type 0 where
  first : List ℕ
  others : List (List ℕ)
  parts : text Line (first ∷ others) ≡ z ++ 10 ∷ []
  counted : length others ≡ count_by is_line_feed z
  each : AllByRecursion (λ p. (length p ≤ length z) × IsClear p) (first ∷ others)

all_longer : (m n : ℕ) → m ≤ n → (ps : List (List ℕ)) → AllByRecursion (λ p. (length p ≤ m) × IsClear p) ps → AllByRecursion (λ p. (length p ≤ n) × IsClear p) ps
all_longer m n less [] each = tt
all_longer m n less (p ∷ ps) each = ((omega (arith, each.0.0, less), each.0.1), all_longer m n less ps each.1)

nothing_clear : IsClear []
nothing_clear k lt = absurd (omega (arith, lt))

clear_more : (b : ℕ) (p : List ℕ) → b ≢ 10 → IsClear p → IsClear (b ∷ p)
clear_more b p other clear zero lt = other
clear_more b p other clear (suc k) lt = clear k (omega (arith, lt))

count_feed : (b : ℕ) (z : List ℕ) → is_line_feed b ≡ true → count_by is_line_feed (b ∷ z) ≡ 1 + count_by is_line_feed z
count_feed b z feed = count_parts is_line_feed (b ∷ []) z ∙ rw feed refl

lines : (z : List ℕ) → AreLines z
lines [] = record { first = []; others = []; parts = refl; counted = refl; each = ((omega arith, nothing_clear), tt) }
lines (b ∷ z) =
    let rest = lines z in
    elim (cases_Bool (is_line_feed b)) [
      | inl feed ↦
          let b_is : b ≡ 10 = eqb-true b 10 feed in
          record {
            first = [];
            others = rest.first ∷ rest.others;
            parts = ap (λ (t : List ℕ). 10 ∷ t) rest.parts ∙ ap (λ (n : ℕ). n ∷ (z ++ 10 ∷ [])) (sym b_is);
            counted = omega (arith, rest.counted, count_feed b z feed);
            each = ((omega arith, nothing_clear), all_longer (length z) (length (b ∷ z)) (omega arith) (rest.first ∷ rest.others) rest.each);
          }
      | inr other ↦ record {
        first = b ∷ rest.first;
        others = rest.others;
        parts = ap (λ (t : List ℕ). b ∷ t) rest.parts;
        counted = rw other rest.counted;
        each = ((omega (arith, rest.each.0.0), clear_more b rest.first (eqb-false b 10 other) rest.each.0.1), all_longer (length z) (length (b ∷ z)) (omega arith) rest.others rest.each.1);
      }
    ]

none_counted : (xs : List ℕ) → ((k : ℕ) → k < length xs → ¬ (eqb (get_or xs k 0) 10 ≡ true)) → count_by is_line_feed xs ≡ 0
none_counted [] none = refl
none_counted (b ∷ xs) none = elim (cases_Bool (is_line_feed b)) [
  | inl feed ↦ absurd (none 0 (omega arith) feed)
  | inr other ↦ rw other (none_counted xs (λ k lt. none (suc k) (omega (arith, lt))))
]

spelt_lines : (max n : ℕ) → n ≤ max → (ps : List (List ℕ)) → AllByRecursion (λ p. (length p ≤ n) × IsClear p) ps → AllByRecursion (λ p. (length p ≤ max) × IsNone (obstacle Line p) × IsNone (obstacle Line p)) ps
spelt_lines max n less [] each = tt
spelt_lines max n less (p ∷ ps) each = let none = has_none p each.0.1 in ((omega (arith, each.0.0, less), none, none), spelt_lines max n less ps each.1)

pub lines_front : (max : ℕ) (x : List ℕ) (most last count : ℕ) → most ≤ length x → most ≤ max + 1
    → NoneAfter (λ k. eqb (get_or (take most x) k 0) 10 ≡ true) 0 (length (take most x)) last → eqb (get_or (take most x) last 0) 10 ≡ true → count ≡ count_by is_line_feed (take most x)
    → (payloads : List (List ℕ)) × IsFront Line Line max x (last + 1) count payloads
lines_front max x most last count in_x in_max none feed counted =
    let y = take most x in
    let size : length y ≡ most = omega (arith, length-take most x, in_x) in
    let z = take last y in
    let z_len : length z ≡ last = omega (arith, length-take last y, none.high) in
    let front : take (last + 1) y ≡ z ++ 10 ∷ [] = (take_at_read y last 0 none.high).1 ∙ ap (λ (b : ℕ). z ++ b ∷ []) (eqb-true (get_or y last 0) 10 feed) in
    let whole = lines z in
    let payloads = whole.first ∷ whole.others in
    let same : take (last + 1) x ≡ text Line payloads = sym (take-take (last + 1) most x (omega (arith, none.high, size))) ∙ front ∙ sym whole.parts in
    let behind : count_by is_line_feed (drop (last + 1) y) ≡ 0 = none_counted (drop (last + 1) y) (λ k lt met. none.after (last + 1 + k) (omega arith) (omega (arith, lt, length-drop (last + 1) y, none.high)) (subst (λ (b : ℕ). eqb b 10 ≡ true) (get_or-drop (last + 1) y k 0) met)) in
    let total : count_by is_line_feed y ≡ count_by is_line_feed z + 1 =
    ap (count_by is_line_feed) (sym (take-append-drop (last + 1) y)) ∙ count_parts is_line_feed (take (last + 1) y) (drop (last + 1) y)
    ∙ omega (arith, behind, ap (count_by is_line_feed) front, count_parts is_line_feed z (10 ∷ [])) in (
      payloads,
      record {
        counted = omega (arith, counted, total, whole.counted);
        size = omega (arith, ap length whole.parts, length-append z (10 ∷ []), z_len);
        parts = sym (take-append-drop (last + 1) x) ∙ ap (λ (t : List ℕ). t ++ drop (last + 1) x) same;
        each = spelt_lines max (length z) (omega (arith, z_len, none.high, size, in_max)) payloads whole.each;
      },
    )

-- no line feed within the longest line
pub no_line : (max : ℕ) (x : List ℕ) (most : ℕ) → most ≡ min (length x) (max + 1) → Nowhere (λ k. eqb (get_or (take most x) k 0) 10 ≡ true) 0 (length (take most x)) → HasNoFrame Line max x
no_line max x most is none p more e =
    let l = line_is max x p more e in
    let k = line_len x in
    let below : k < most = omega (arith, is, l.ends, l.within) in
    none k (omega arith) (omega (arith, below, is, length-take most x)) (ap (λ (b : ℕ). eqb b 10) (get_or-take most x k 0 below) ∙ passes_at_first is_line_feed x 0 l.ends)

-- the first line feed within the longest line
chosen_len : (n len : ℕ) (r : Option ℕ) → cond (nat_lt n len) (Some n) None ≡ r → (at : ℕ) → r ≡ Some at → (n ≡ at) × (n < len)
chosen_len n len r e at is = elim (chosen (nat_lt n len) (Some n) None (Some at) (e ∙ is)) [
  | inl a ↦ (cc, ltb-true n len a.0)
  | inr b ↦ absurd cc
]

chosen_none : (n len : ℕ) → cond (nat_lt n len) (Some n) None ≡ None → len ≤ n
chosen_none n len e = elim (chosen (nat_lt n len) (Some n) None None e) [
  | inl a ↦ absurd cc
  | inr b ↦ ltb-false n len b.0
]

pub line_within : (max : ℕ) (x : List ℕ) (most n : ℕ) → most ≡ min (length x) (max + 1) → position is_line_feed (take most x) ≡ Some n → IsWhole Line max x 0 n (n + 1)
line_within max x most n is found =
    let y = take most x in
    let first = chosen_len (line_len y) (length y) (Some n) found n refl in
    let size : length y ≡ most = omega (arith, is, length-take most x) in
    let below : n < most = omega (arith, first.0, first.1, size) in
    let len : line_len x ≡ n = position_or_len_is is_line_feed x n 0 (omega (arith, below, is))
    (λ k lt. ap is_line_feed (sym (get_or-take most x k 0 (omega (arith, lt, below)))) ∙ fails_before_first is_line_feed y k 0 (omega (arith, lt, first.0)))
    (λ lt. ap is_line_feed (sym (get_or-take most x n 0 below)) ∙ ap (λ (k : ℕ). is_line_feed (get_or y k 0)) (sym first.0) ∙ passes_at_first is_line_feed y 0 first.1) in
    record {
      whole = line_from max x (take n x) (drop (n + 1) x) (record {
        ends = omega (arith, len, below, is);
        within = omega (arith, len, below, is);
        payload = ap (λ (k : ℕ). take k x) len;
        rest = ap (λ (k : ℕ). drop (k + 1) x) len;
      });
      within = (omega arith, omega (arith, below, is));
    }

pub no_line_near : (max : ℕ) (x : List ℕ) (most : ℕ) → most ≡ min (length x) (max + 1) → position is_line_feed (take most x) ≡ None → HasNoFrame Line max x
no_line_near max x most is none p more e =
    let y = take most x in
    let l = line_is max x p more e in
    let k = line_len x in
    let below : k < most = omega (arith, is, l.ends, l.within) in
    let late = chosen_none (line_len y) (length y) none in
    let fails = fails_before_first is_line_feed y k 0 (omega (arith, below, late, is, length-take most x)) in
    let passes : is_line_feed (get_or y k 0) ≡ true = ap is_line_feed (get_or-take most x k 0 below) ∙ passes_at_first is_line_feed x 0 l.ends in
    absurd cc
