-- The place of a name, and what the name's entry there says of the names.
use Rattle.std.proofs.Common.{◌≡◌, ◌+◌, ◌<◌, inl, inr, ℕ, Bool, List, [], ◌∷◌, length, Option, Some, None, option_and_then, is_some, refl, sym, ap, ◌∙◌, arith, slice_index_or, slice_set, subst, suc}
use Rattle.std.proofs.lemmas.Bool.{cases_Bool}
use Rattle.std.proofs.lemmas.Option.{same_Some}
use Rattle.std.specs.Str.{bytes_eq}
use Rattle.edge_core.specs.Names.{NamedState, named, place_from, with_changed}

-- The first of a name has this index.
pub record IsFirst (at : ℕ) (name : List ℕ) (names : List NamedState) : Type 0 where
  pub within : at < length names
  pub known : (d : NamedState) → named name names ≡ Some (slice_index_or names at d)
  pub changed : (change : NamedState → NamedState) (d : NamedState) → with_changed change name names ≡ slice_set names at (change (slice_index_or names at d))

first_from : (at : ℕ) (name : List ℕ) (names : List NamedState) (found : ℕ) → place_from at name names ≡ Some found → (k : ℕ) × (found ≡ at + k) × IsFirst k name names
first_from at name [] found is = absurd cc
first_from at name (known ∷ others) found is = elim (cases_Bool (bytes_eq known.name name)) [
  | inl here ↦
      let same : at ≡ found = same_Some at found (rw here at is) in
      (0, omega (arith, same), record { within = omega arith; known = λ d. rw here refl; changed = λ change d. rw here refl })
  | inr other ↦
      let later = first_from (at + 1) name others found (rw other at is) in (
        suc later.0,
        omega (arith, later.1),
        record {
          within = omega (arith, later.2.within);
          known = λ d. rw other (later.2.known d);
          changed = λ change d. rw other (ap (λ (list : List NamedState). known ∷ list) (later.2.changed change d));
        },
      )
]

pub first_at : (name : List ℕ) (names : List NamedState) (found : ℕ) → place_from 0 name names ≡ Some found → IsFirst found name names
first_at name names found is =
    let first = first_from 0 name names found is in
    subst (λ k. IsFirst k name names) (omega (arith, first.1)) first.2

absent_from : (at : ℕ) (name : List ℕ) (names : List NamedState) → place_from at name names ≡ None → (named name names ≡ None) × ((change : NamedState → NamedState) → with_changed change name names ≡ names)
absent_from at name [] is = (refl, λ change. refl)
absent_from at name (known ∷ others) is = elim (cases_Bool (bytes_eq known.name name)) [
  | inl here ↦ absurd (none_is_some at (rw here at is))
  | inr other ↦
      let later = absent_from (at + 1) name others (rw other at is) in
      (rw other later.0, λ change. rw other (ap (λ (list : List NamedState). known ∷ list) (later.1 change)))
]
  where
    none_is_some : (n : ℕ) → ◌≡◌ {A = Option ℕ} (Some n) None → ⊥
    none_is_some n is = cc

-- What the entry of a name has is what the names have of it.
pub part_at : {D : Type 0} (part : NamedState → Option D) (name : List ℕ) (names : List NamedState) (at : ℕ) (x : NamedState) (r : Option D)
    → IsFirst at name names → x ≡ slice_index_or names at x → r ≡ part x → r ≡ option_and_then part (named name names)
part_at part name names at x r first read is = is ∙ ap (λ (o : Option NamedState). option_and_then part o) (sym (first.known x ∙ ap (λ (y : NamedState). Some y) (sym read)))

pub has_at : {D : Type 0} (part : NamedState → Option D) (name : List ℕ) (names : List NamedState) (at : ℕ) (x : NamedState) (b : Bool)
    → IsFirst at name names → x ≡ slice_index_or names at x → b ≡ is_some (part x) → b ≡ is_some (option_and_then part (named name names))
has_at part name names at x b first read is = is ∙ ap (λ (o : Option _). is_some o) (part_at part name names at x (part x) first read refl)

-- Changing the entry of a name changes the names there.
pub changed_at : (change : NamedState → NamedState) (name : List ℕ) (names : List NamedState) (at : ℕ) (x y : NamedState)
    → IsFirst at name names → x ≡ slice_index_or names at x → y ≡ change x → slice_set names at y ≡ with_changed change name names
changed_at change name names at x y first read is =
    ap (λ (z : NamedState). slice_set names at z) (is ∙ ap change read) ∙ sym (first.changed change x)

-- A name that isn't there has nothing, and nothing is changed there.
pub absent : (name : List ℕ) (names : List NamedState) → place_from 0 name names ≡ None → (named name names ≡ None) × ((change : NamedState → NamedState) → with_changed change name names ≡ names)
absent = absent_from 0
