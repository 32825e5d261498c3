-- Histories and what they begin with, and words that are even or odd.
use Rattle.std.proofs.Common.{◌≡◌, ◌≤◌, ◌≢◌, ℕ, zero, suc, ◌+◌, ◌*◌, ◌<◌, ◌⊎◌, Bool, true, false, List, [], ◌∷◌, ◌++◌, map, set, length, eqb, refl, sym, ap, ◌∙◌, subst, arith, ne_eqb, eq-eqb, cond, inl, inr, ⊎_elim, append-nil}
use Rattle.std.specs.Int.RustNames.{bit_or}
use Rattle.std.specs.List.{filter, All, AllPairs}
use mathlib.Core.Option as plain
use mathlib.Core.List.{IsPrefix, append_assoc}
use lib.ListN.{get_elem?}
use Rattle.std.proofs.lemmas.Nat.{or_shifted, or_block}
use Rattle.std.proofs.lemmas.List.{map-append, length-append, length-map}
use Rattle.std.proofs.lemmas.List.Elements.{filter-append, All-append, All-head, All-tail}
use Rattle.std.proofs.lemmas.List.Kept.{AllPairs-cons}
use Rattle.turn_cell.specs.History.{entries_of, made_by}
use Rattle.atomic_table.proofs.Lists.{at_set}

twice : (n : ℕ) → n * 2 ≡ 2 * n
twice n = omega arith

pub even_or_one : (n : ℕ) → bit_or (2 * n) 1 ≡ 2 * n + 1
even_or_one n = subst (λ (k : ℕ). bit_or k 1 ≡ k + 1) (twice n) (or_shifted n 1 1 (omega arith))

or_none : (n : ℕ) → bit_or n 0 ≡ n
or_none n = let e : bit_or (n * 1) 0 ≡ n * 1 + 0 = or_shifted n 0 0 (omega arith) in let one : n * 1 ≡ n = omega arith in let same : n * 1 + 0 ≡ n = omega arith in ap (λ (k : ℕ). bit_or k 0) (sym one) ∙ e ∙ same

pub odd_or_one : (n : ℕ) → bit_or (2 * n + 1) 1 ≡ 2 * n + 1
odd_or_one n = subst (λ (k : ℕ). bit_or (k + 1) 1 ≡ k + 1) (twice n) (or_block 1 n 0 1 1 (omega arith) (omega arith) ∙ ap (λ (k : ℕ). k * 2 + 1) (or_none n))

module _ {E : Type 0} where
  pub entries_of-append : (k : ℕ) (h g : List (ℕ × E)) → entries_of k (h ++ g) ≡ entries_of k h ++ entries_of k g
  entries_of-append k h g = ap (map (λ (e : ℕ × E). e.1)) (filter-append (λ (e : ℕ × E). eqb e.0 k) h g) ∙ map-append (λ (e : ℕ × E). e.1) _ _

  pub entries_of-made_by : (k : ℕ) (es : List E) → entries_of k (made_by k es) ≡ es
  entries_of-made_by k [] = refl
  entries_of-made_by k (e ∷ es) = let l : List (ℕ × E) = filter (λ (e : ℕ × E). eqb e.0 k) (made_by k es) in
      ap (λ (b : Bool). map (λ (e : ℕ × E). e.1) (cond b ((k, e) ∷ l) l)) (eq-eqb k k refl) ∙ ap (λ l. e ∷ l) (entries_of-made_by k es)

  pub entries_of-others : (k j : ℕ) (es : List E) → j ≢ k → entries_of k (made_by j es) ≡ []
  entries_of-others k j [] n = refl
  entries_of-others k j (e ∷ es) n = let l : List (ℕ × E) = filter (λ (e : ℕ × E). eqb e.0 k) (made_by j es) in
      ap (λ (b : Bool). map (λ (e : ℕ × E). e.1) (cond b ((j, e) ∷ l) l)) (ne_eqb j k n) ∙ entries_of-others k j es n

  -- what a seat adds are its own entries
  pub own_more : (k : ℕ) (h : List (ℕ × E)) (es : List E) → entries_of k (h ++ made_by k es) ≡ entries_of k h ++ es
  own_more k h es = entries_of-append k h (made_by k es) ∙ ap (λ l. entries_of k h ++ l) (entries_of-made_by k es)

  pub others_same : (k j : ℕ) (h : List (ℕ × E)) (es : List E) → j ≢ k → entries_of k (h ++ made_by j es) ≡ entries_of k h
  others_same k j h es n = entries_of-append k h (made_by j es) ∙ ap (λ l. entries_of k h ++ l) (entries_of-others k j es n) ∙ append-nil _

module _ {A : Type 0} where
  pub prefix_refl : (h : List A) → IsPrefix h h
  prefix_refl h = ([], append-nil h)

  pub prefix_more : (x h g : List A) → IsPrefix x h → IsPrefix x (h ++ g)
  prefix_more x h g p = (p.0 ++ g, sym (append_assoc x p.0 g) ∙ ap (λ l. l ++ g) p.1)

  pub set_there : (vs : List A) (i : ℕ) (v w : A) → get_elem? vs i ≡ plain.some v → get_elem? (set vs i w) i ≡ plain.some w
  set_there [] i v w e = absurd (plain.some-ne-none v (sym e))
  set_there (x ∷ xs) zero v w e = refl
  set_there (x ∷ xs) (suc i) v w e = set_there xs i v w e

  -- what holds of the seat that steps, and of the others, holds of all
  pub each_of_set : (P : ℕ → A → Type 0) (vs : List A) (id : ℕ) (w : A) → P id w → ((j : ℕ) (v : A) → j ≢ id → get_elem? vs j ≡ plain.some v → P j v)
      → (j : ℕ) (v : A) → get_elem? (set vs id w) j ≡ plain.some v → P j v
  each_of_set P vs id w mine others j v e = ⊎_elim (λ (t : (j ≡ id) × (w ≡ v)). subst (λ (x : ℕ × A). P x.0 x.1) (λ i. (sym t.0 i, t.1 i)) mine)
      (λ (t : (j ≢ id) × (get_elem? vs j ≡ plain.some v)). others j v t.0 t.1) (at_set vs id j w v e)

module _ {E : Type 0} where
  pub length_more : (h : List (ℕ × E)) (k : ℕ) (es : List E) → length (h ++ made_by k es) ≡ length h + length es
  length_more h k es = length-append h (made_by k es) ∙ ap (λ (n : ℕ). length h + n) (length-map es (λ (e : E). (k, e)))

  -- a word for a history that was held, and what was added
  pub word_more : (h : List (ℕ × E)) (k : ℕ) (es : List E) (entries added : ℕ) → entries ≡ length h → length es ≡ added → 2 * (entries + added) ≡ 2 * length (h ++ made_by k es)
  word_more h k es entries added e d = let l = length_more h k es in omega arith

  pub room_more : (h : List (ℕ × E)) (k : ℕ) (es : List E) (entries added most : ℕ) → entries ≡ length h → length es ≡ added → entries + added ≤ most → length (h ++ made_by k es) ≤ most
  room_more h k es entries added most e d l = let n = length_more h k es in omega arith

module _ {A : Type 0} where
  pub at_below : (xs : List A) (i : ℕ) (b : A) → get_elem? xs i ≡ plain.some b → i < length xs
  at_below [] i b e = absurd (plain.some-ne-none b (sym e))
  at_below (x ∷ xs) zero b e = omega arith
  at_below (x ∷ xs) (suc i) b e = let h = at_below xs i b e in omega arith

  pub at_end : (xs : List A) (a : A) (i : ℕ) (b : A) → get_elem? (xs ++ a ∷ []) i ≡ plain.some b → (get_elem? xs i ≡ plain.some b) ⊎ ((i ≡ length xs) × (a ≡ b))
  at_end [] a zero b e = inr (refl, plain.some-injective a b e)
  at_end [] a (suc i) b e = absurd (plain.some-ne-none b (sym e))
  at_end (x ∷ xs) a zero b e = inl e
  at_end (x ∷ xs) a (suc i) b e = ⊎_elim inl (λ t. inr (ap suc t.0, t.1)) (at_end xs a i b e)

  -- the longer of two beginnings is one
  pub prefix_longer : (b : Bool) (xs ys l : List A) → IsPrefix xs l → IsPrefix ys l → IsPrefix (cond b ys xs) l
  prefix_longer true xs ys l p q = q
  prefix_longer false xs ys l p q = p

module _ {A : Type 0} where
  -- of two lists, each with a fact of all its pairs, and with the fact of each element of the first and each of the second
  pub pairs_append : (R : A → A → Type 0) (xs ys : List A) → AllPairs R xs → AllPairs R ys → All (λ x. All (R x) ys) xs → AllPairs R (xs ++ ys)
  pairs_append R [] ys p q c = q
  pairs_append R (x ∷ xs) ys p q c =
      let head : All (R x) xs = λ k d l. p 0 (suc k) d (omega arith) (omega arith) in
      let tail : AllPairs R xs = λ i j d lt l. p (suc i) (suc j) d (omega arith) (omega arith) in
      AllPairs-cons R x (xs ++ ys) (All-append (R x) xs ys head (All-head (λ x. All (R x) ys) x xs c)) (pairs_append R xs ys tail q (All-tail (λ x. All (R x) ys) x xs c))
