-- The first and the last place that meet a test, as positions in lists.
use Rattle.std.proofs.Common.{◌≡◌, ℕ, zero, suc, ◌-◌, ◌<◌, ◌≤◌, Bool, true, false, not, cond, eqb, ltb, ltb-false, Contains, Option, Some, None, List, [], ◌∷◌, length, get_or, reverse, option_map, refl, sym, ap, subst, ◌∙◌, inl, inr, arith}
use Rattle.std.specs.List.{common_prefix_len, position, position_or_len}
use Rattle.std.proofs.lemmas.Bool.{cases_lt, false_from_ne_true, false≢true, le-ltb, lt-ltb}
use Rattle.std.proofs.lemmas.List.{get_or-reverse, length-reverse}
use Rattle.std.proofs.lemmas.List.Sums.{fails_before_first, passes_at_first, position_or_len_is}
use Rattle.memchr.specs.Find.{IsFirst, IsLast}
use Rattle.byte_kernels.specs.Scan.{last_position}

module _ (test : ℕ → Bool) (bytes : List ℕ) where
  abbrev pub meets : ℕ → Type 0
  meets place = test (get_or bytes place 0) ≡ true

  pub found_at : (at : ℕ) → at < length bytes → ((k : ℕ) → k < at → ¬ meets k) → meets at → position test bytes ≡ Some at
  found_at at lt before met =
      let len = position_or_len_is test bytes at 0 (omega arith) (λ k below. false_from_ne_true _ (before k below)) (λ _. met) in
      rw (len, lt-ltb at (length bytes) lt) refl

  pub found_nowhere : ((k : ℕ) → k < length bytes → ¬ meets k) → position test bytes ≡ None
  found_nowhere nowhere = elim (cases_lt (position_or_len test bytes) (length bytes)) [
    | inl lt ↦ absurd (nowhere (position_or_len test bytes) lt (passes_at_first test bytes 0 lt))
    | inr ge ↦ rw (le-ltb (position_or_len test bytes) (length bytes) ge) refl
  ]

pub first_is_position : (test : ℕ → Bool) (bytes : List ℕ) (r : Option ℕ) → IsFirst (λ place. test (get_or bytes place 0) ≡ true) 0 (length bytes) r → r ≡ position test bytes
first_is_position test bytes None nowhere = sym (found_nowhere test bytes (λ k lt. nowhere k (omega arith) lt))
first_is_position test bytes (Some at) first = sym (found_at test bytes at first.0.high (λ k lt. first.0.before k (omega arith) lt) first.1)

module _ (test : ℕ → Bool) (bytes : List ℕ) where
  -- a byte of the reversed list
  mirrored : (k : ℕ) → k < length bytes → meets test (reverse bytes) k → meets test bytes (length bytes - 1 - k)
  mirrored k lt = subst (λ byte. test byte ≡ true) (get_or-reverse bytes k 0 lt)

  pub last_found : (at : ℕ) → at < length bytes → ((k : ℕ) → at < k → k < length bytes → ¬ meets test bytes k) → meets test bytes at → Some at ≡ last_position test bytes
  last_found at lt after met =
      let size = length-reverse bytes in
      let from_end = length bytes - 1 - at in
      let back : length bytes - 1 - from_end ≡ at = omega arith in
      let here : meets test (reverse bytes) from_end = subst (λ byte. test byte ≡ true) (sym (get_or-reverse bytes from_end 0 (omega arith) ∙ ap (λ k. get_or bytes k 0) back)) met in
      let found = found_at test (reverse bytes) from_end (omega arith) (λ k below other. after (length bytes - 1 - k) (omega arith) (omega arith) (mirrored k (omega arith) other)) here in
      sym (ap (option_map (λ index. length bytes - 1 - index)) found ∙ ap Some back)

  pub last_nowhere : ((k : ℕ) → k < length bytes → ¬ meets test bytes k) → None ≡ last_position test bytes
  last_nowhere nowhere =
      let size = length-reverse bytes in
      sym (ap (option_map (λ index. length bytes - 1 - index)) (found_nowhere test (reverse bytes) (λ k lt other. nowhere (length bytes - 1 - k) (omega arith) (mirrored k (omega arith) other))))

pub last_is_position : (test : ℕ → Bool) (bytes : List ℕ) (r : Option ℕ) → IsLast (λ place. test (get_or bytes place 0) ≡ true) 0 (length bytes) r → r ≡ last_position test bytes
last_is_position test bytes None nowhere = last_nowhere test bytes (λ k lt. nowhere k (omega arith) lt)
last_is_position test bytes (Some at) last = last_found test bytes at last.0.high (λ k low high. last.0.after k (omega arith) high) last.1

alike_true : (b : Bool) → ¬ (not b ≡ true) → b ≡ true
alike_true true alike = refl
alike_true false alike = absurd (alike refl)

differ_false : (b : Bool) → not b ≡ true → b ≡ false
differ_false true differ = absurd (false≢true differ)
differ_false false differ = refl

-- lists are alike before the first place at which they differ, or at which one of them ends
pub front_is : (a b : List ℕ) (at : ℕ) → at ≤ length a → at ≤ length b
    → ((k : ℕ) → k < at → ¬ (not (eqb (get_or a k 0) (get_or b k 0)) ≡ true))
    → (at < length a → at < length b → not (eqb (get_or a at 0) (get_or b at 0)) ≡ true)
    → at ≡ common_prefix_len eqb a b
front_is [] b at in_a in_b alike differ = omega arith
front_is (x ∷ a) [] at in_a in_b alike differ = omega arith
front_is (x ∷ a) (y ∷ b) zero in_a in_b alike differ = rw (differ_false (eqb x y) (differ (omega arith) (omega arith))) refl
front_is (x ∷ a) (y ∷ b) (suc at) in_a in_b alike differ =
    rw (alike_true (eqb x y) (alike 0 (omega arith)))
    (omega (arith, front_is a b at (omega arith) (omega arith) (λ k lt. alike (suc k) (omega arith)) (λ lt_a lt_b. differ (omega arith) (omega arith))))

none_is_end : (n len : ℕ) (b : Bool) → ltb n len ≡ b → None ≡ cond b (Some n) None → len ≤ n
none_is_end n len true is e = absurd cc
none_is_end n len false is e = ltb-false n len is

-- where no byte fails a test, all that a list has meet it
pub all_meet : (test : ℕ → Bool) (bytes : List ℕ) → None ≡ position (λ byte. not (test byte)) bytes → (byte : ℕ) → Contains bytes byte → test byte ≡ true
all_meet test bytes none byte has =
    let others = λ (other : ℕ). not (test other) in
    let k = has.0 in
    let all = none_is_end (position_or_len others bytes) (length bytes) _ refl none in
    let fails : not (test (get_or bytes k byte)) ≡ false = fails_before_first others bytes k byte (omega (arith, all, has.1)) in
    subst (λ b. test b ≡ true) has.2 (alike_true (test (get_or bytes k byte)) (λ other. false≢true (sym fails ∙ other)))
