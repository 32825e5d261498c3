-- The first byte that meets a test, in lists that are joined.
use Rattle.std.proofs.Common.{◌≡◌, ◌+◌, ◌<◌, ◌≤◌, ℕ, Bool, true, false, not, cond, ltb, Option, Some, None, List, ◌++◌, length, refl, ap, ◌∙◌, inl, inr, arith, length-append}
use Rattle.std.specs.List.{position, position_or_len}
use Rattle.std.proofs.lemmas.Bool.{ltb-true, ltb-false, lt-ltb, le-ltb, cases_lt, false_from_ne_true, eq-eqb, ne_eqb}
use Rattle.std.proofs.lemmas.List.Sums.{passes_at_first, position_or_len_is, prefix_len-le-length}
use Rattle.std.proofs.lemmas.List.Folds.{prefix_len-append}
use Rattle.memchr.specs.Find.{IsFirstByte}

-- the first byte that a search by `memchr` finds
pub found : (test : ℕ → Bool) (x : List ℕ) (r : Option ℕ) → IsFirstByte test x r → r ≡ position test x
found test x None nowhere =
    elim (cases_lt (position_or_len test x) (length x)) [
      | inl lt ↦ absurd (nowhere (position_or_len test x) (omega arith) lt (passes_at_first test x 0 lt))
      | inr ge ↦ rw (le-ltb (position_or_len test x) (length x) ge) refl
    ]
found test x (Some at) first =
    let len : position_or_len test x ≡ at = position_or_len_is test x at 0 (omega (arith, first.0.high))
    (λ k lt. false_from_ne_true _ (first.0.before k (omega arith) lt))
    (λ lt. first.1) in
    rw (len, lt-ltb at (length x) first.0.high) refl

-- ---- what an answer says

chosen : (n len at : ℕ) (b : Bool) → ltb n len ≡ b → cond b (Some n) None ≡ Some at → (n ≡ at) × (n < len)
chosen n len at true is e = (cc, ltb-true n len is)
chosen n len at false is e = absurd cc

not_chosen : (n len : ℕ) (b : Bool) → ltb n len ≡ b → cond b (Some n) None ≡ None → len ≤ n
not_chosen n len true is e = absurd cc
not_chosen n len false is e = ltb-false n len is

pub at_some : (test : ℕ → Bool) (x : List ℕ) (at : ℕ) → position test x ≡ Some at → (position_or_len test x ≡ at) × (at < length x)
at_some test x at e =
    let both = chosen (position_or_len test x) (length x) at _ refl e in
    (both.0, omega (arith, both.0, both.1))

pub at_none : (test : ℕ → Bool) (x : List ℕ) → position test x ≡ None → position_or_len test x ≡ length x
at_none test x e = omega (arith, not_chosen (position_or_len test x) (length x) _ refl e, prefix_len-le-length (λ b. not (test b)) x)

pub position_at : (test : ℕ → Bool) (x : List ℕ) (at : ℕ) → position_or_len test x ≡ at → at < length x → position test x ≡ Some at
position_at test x at e lt = rw (e, lt-ltb at (length x) lt) refl

pub position_past : (test : ℕ → Bool) (x : List ℕ) → position_or_len test x ≡ length x → position test x ≡ None
position_past test x e = rw (e, le-ltb (length x) (length x) (omega arith)) refl

-- ---- joined lists

-- where the first list has no such byte, the search goes on in the second
pub passed_over : (test : ℕ → Bool) (x y : List ℕ) → position_or_len test x ≡ length x → position_or_len test (x ++ y) ≡ length x + position_or_len test y
passed_over test x y e = prefix_len-append (λ b. not (test b)) x y ∙ rw (eq-eqb (position_or_len test x) (length x) e) refl

-- and where it has one, it ends there
pub stopped : (test : ℕ → Bool) (x y : List ℕ) → position_or_len test x < length x → position_or_len test (x ++ y) ≡ position_or_len test x
stopped test x y lt = prefix_len-append (λ b. not (test b)) x y ∙ rw (ne_eqb (position_or_len test x) (length x) (λ e. omega (arith, lt, e))) refl

-- bytes that were passed over, and an answer in those behind them
pub found_behind : (test : ℕ → Bool) (passed x y : List ℕ) (at : ℕ) → position_or_len test passed ≡ length passed → position test x ≡ Some at → position test (passed ++ (x ++ y)) ≡ Some (length passed + at)
found_behind test passed x y at none e =
    let here = at_some test x at e in
    position_at test (passed ++ (x ++ y)) (length passed + at)
    (passed_over test passed (x ++ y) none ∙ ap (λ n. length passed + n) (stopped test x y (omega (arith, here.0, here.1)) ∙ here.0))
    (omega (arith, here.1, length-append passed (x ++ y), length-append x y))

pub none_behind : (test : ℕ → Bool) (passed x : List ℕ) → position_or_len test passed ≡ length passed → position test x ≡ None → position_or_len test (passed ++ x) ≡ length (passed ++ x)
none_behind test passed x none e = omega (arith, passed_over test passed x none, at_none test x e, length-append passed x)
