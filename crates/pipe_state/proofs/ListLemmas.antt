-- The first and the last item of a list.
use Rattle.std.proofs.Common.{◌≡◌, ◌<◌, ◌+◌, ◌-◌, ℕ, zero, suc, List, [], ◌∷◌, ◌++◌, length, take, drop, refl, ap, sym, ◌∙◌, arith, Some, None}
use Rattle.std.specs.Prelude.{slice_get}
use Rattle.std.specs.List.{AllByRecursion}
use Rattle.std.proofs.lemmas.List.{length-append, append-nil, nil_from_length}
use mathlib.Core.List.{IsPrefix}
use Rattle.circular_buffer.specs.Buffer.{last_item}

-- a prefix that is as long is the whole
pub whole_prefix : (xs ys : List ℕ) → IsPrefix xs ys → length ys ≡ length xs → ys ≡ xs
whole_prefix xs ys p same =
    let parts : length xs + length p.0 ≡ length ys = sym (length-append xs p.0) ∙ ap length p.1 in
    let none : p.0 ≡ [] = nil_from_length p.0 (omega arith) in
    sym p.1 ∙ ap (λ l. xs ++ l) none ∙ append-nil xs

module _ {X : Type 0} where
  last_at : (xs : List X) (i : ℕ) (x : X) → length xs ≡ i + 1 → slice_get xs i ≡ Some x → take i xs ++ x ∷ [] ≡ xs
  last_at [] i x long e = absurd (omega arith)
  last_at (y ∷ []) zero x long e = search (e)
  last_at (y ∷ z ∷ xs) zero x long e = absurd (omega arith)
  last_at (y ∷ xs) (suc i) x long e = ap (λ l. y ∷ l) (last_at xs i x (omega arith) e)

  pub last_apart : (xs : List X) (x : X) → last_item xs ≡ Some x → take (length xs - 1) xs ++ x ∷ [] ≡ xs
  last_apart [] x e = cc (e)
  last_apart (y ∷ xs) x e = last_at (y ∷ xs) (length (y ∷ xs) - 1) x (omega arith) e

  has_at : (xs : List X) (i : ℕ) → i < length xs → slice_get xs i ≡ None → ⊥
  has_at [] i below none = absurd (omega arith)
  has_at (y ∷ xs) zero below none = cc (none)
  has_at (y ∷ xs) (suc i) below none = has_at xs i (omega arith) none

  pub no_last : (xs : List X) → last_item xs ≡ None → xs ≡ []
  no_last [] none = refl
  no_last (y ∷ xs) none = absurd (has_at (y ∷ xs) (length (y ∷ xs) - 1) (omega arith) none)

  pub first_apart : (xs : List X) (x : X) → slice_get xs 0 ≡ Some x → xs ≡ x ∷ drop 1 xs
  first_apart [] x e = cc (e)
  first_apart (y ∷ xs) x e = search (e)

  pub no_first : (xs : List X) → slice_get xs 0 ≡ None → xs ≡ []
  no_first [] e = refl
  no_first (x ∷ xs) e = cc (e)

  module _ (P : X → Type 0) where
    pub all_before : (xs : List X) (x : X) → AllByRecursion P (xs ++ x ∷ []) → AllByRecursion P xs
    all_before [] x all = tt
    all_before (y ∷ xs) x all = (all.0, all_before xs x all.1)

    pub all_behind : (xs : List X) (x : X) → AllByRecursion P xs → P x → AllByRecursion P (xs ++ x ∷ [])
    all_behind [] x all one = (one, tt)
    all_behind (y ∷ xs) x all one = (all.0, all_behind xs x all.1 one)
