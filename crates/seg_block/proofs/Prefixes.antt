-- Lists that begin with others.
use Rattle.std.proofs.Common.{◌≡◌, ℕ, zero, suc, ◌+◌, ◌-◌, ◌≤◌, List, [], ◌∷◌, ◌++◌, length, take, drop, ap, ◌∙◌, sym, arith, take-append-drop}
use mathlib.Core.List.{IsPrefix}
use base.Growing.{prefix_trans}

-- `take` past the first list
pub take_past : (xs ys : List ℕ) (n m : ℕ) → m ≡ length xs + n → take m (xs ++ ys) ≡ xs ++ take n ys
take_past [] ys n m e = let same : m ≡ n = omega arith in rw same
take_past (x ∷ xs) ys n zero e = absurd (omega arith)
take_past (x ∷ xs) ys n (suc m) e = ap (λ l. x ∷ l) (take_past xs ys n m (omega arith))

length_take : (m : ℕ) (xs : List ℕ) → length (take m xs) ≤ m
length_take zero xs = omega arith
length_take (suc m) [] = omega arith
length_take (suc m) (x ∷ xs) = let rest = length_take m xs in omega arith

-- a prefix that is no longer than n
pub prefix_take : (xs ys : List ℕ) (n : ℕ) → IsPrefix xs ys → length xs ≤ n → IsPrefix xs (take n ys)
prefix_take xs ys n p h = (take (n - length xs) p.0, sym (take_past xs p.0 (n - length xs) n (omega arith)) ∙ ap (take n) p.1)

-- a front part of a prefix
pub take-prefix : (xs ys : List ℕ) (m n : ℕ) → IsPrefix xs ys → m ≤ n → IsPrefix (take m xs) (take n ys)
take-prefix xs ys m n p h =
    let short = length_take m xs in
    prefix_take (take m xs) ys n (prefix_trans (take m xs) xs ys (drop m xs, take-append-drop m xs) p) (omega arith)

-- a list that begins with another has its first item
pub heads_agree : (xs ys : List ℕ) (x y : ℕ) → xs ≡ x ∷ [] → ys ≡ y ∷ [] → IsPrefix xs ys → x ≡ y
heads_agree xs ys x y a b p =
    let same : (x ∷ []) ++ p.0 ≡ y ∷ [] = ap (λ (l : List ℕ). l ++ p.0) (sym a) ∙ p.1 ∙ b in
    ap (λ (l : List ℕ). first l) same
  where
    first : List ℕ → ℕ
    first [] = 0
    first (x ∷ xs) = x

-- a front part of a prefix is one too
pub front_of_prefix : (xs ys : List ℕ) (m : ℕ) → IsPrefix xs ys → IsPrefix (take m xs) ys
front_of_prefix xs ys m p = prefix_trans (take m xs) xs ys (drop m xs, take-append-drop m xs) p
