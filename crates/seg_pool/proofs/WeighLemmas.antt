-- Weights of lists that grow, shrink or change in one place.
use Rattle.std.proofs.Common.{◌≡◌, ◌≤◌, ◌<◌, ◌+◌, ◌==◌, ℕ, zero, suc, List, [], ◌∷◌, ◌++◌, length, set, sym, refl, ap, arith, inl, inr}
use Rattle.std.proofs.lemmas.Bool.{cases_Bool, eqb-true, eqb-false}
use mathlib.Core.Option.{some, some-injective, some-ne-none}
use lib.ListN.{get_elem?}
use Rattle.seg_block.specs.Numbered.{weigh, times}
use Rattle.seg_pool.specs.Steps.{without}

module _ {X : Type 0} (f : X → ℕ) where
  pub weigh-append : (xs ys : List X) → weigh f (xs ++ ys) ≡ weigh f xs + weigh f ys
  weigh-append [] ys = omega arith
  weigh-append (x ∷ xs) ys = let rest = weigh-append xs ys in omega (arith, rest)

  -- after a change in one place
  pub weigh_set : (xs : List X) (k : ℕ) (v w : X) → get_elem? xs k ≡ some v → weigh f (set xs k w) + f v ≡ weigh f xs + f w
  weigh_set [] k v w at = absurd (some-ne-none v (sym at))
  weigh_set (x ∷ xs) zero v w at = let is = ap f (some-injective x v at) in omega (arith, is)
  weigh_set (x ∷ xs) (suc k) v w at = let rest = weigh_set xs k v w at in omega (arith, rest)

  -- where one changes and a new one comes
  pub weigh_fork : (xs : List X) (k : ℕ) (v w n : X) → get_elem? xs k ≡ some v → weigh f (set xs k w ++ n ∷ []) + f v ≡ weigh f xs + (f w + f n)
  weigh_fork xs k v w n at = let one = weigh_set xs k v w at in let more = weigh-append (set xs k w) (n ∷ []) in omega (arith, one, more)

  -- each weighs at most what all weigh
  pub weigh_has : (xs : List X) (k : ℕ) (v : X) → get_elem? xs k ≡ some v → f v ≤ weigh f xs
  weigh_has [] k v at = absurd (some-ne-none v (sym at))
  weigh_has (x ∷ xs) zero v at = let is = ap f (some-injective x v at) in omega (arith, is)
  weigh_has (x ∷ xs) (suc k) v at = let rest = weigh_has xs k v at in omega (arith, rest)

  pub weigh_zero : (xs : List X) → ((k : ℕ) (x : X) → get_elem? xs k ≡ some x → f x ≡ 0) → weigh f xs ≡ 0
  weigh_zero [] none = refl
  weigh_zero (x ∷ xs) none = let here = none 0 x refl in let rest = weigh_zero xs (λ k y at. none (suc k) y at) in omega (arith, here, rest)

pub weigh-length : (xs : List ℕ) → weigh (λ x. 1) xs ≡ length xs
weigh-length [] = refl
weigh-length (x ∷ xs) = let rest = weigh-length xs in omega (arith, rest)

-- one x less
pub weigh_without : (f : ℕ → ℕ) (x : ℕ) (xs : List ℕ) → 0 < times x xs → weigh f (without x xs) + f x ≡ weigh f xs
weigh_without f x [] some_x = absurd (omega arith)
weigh_without f x (y ∷ ys) some_x = elim (cases_Bool (y == x)) [
  | inl is ↦ rw is (let same = ap f (eqb-true y x is) in omega (arith, same))
  | inr is ↦ rw is (let apart = eqb-false y x is in let rest = weigh_without f x ys (omega (arith, apart)) in omega (arith, rest))
]
