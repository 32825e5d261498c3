-- What marks say of the places that a search passes.
use Rattle.std.proofs.Common.{◌≡◌, ℕ, ◌+◌, ◌-◌, ◌*◌, ◌%◌, ◌^◌, ◌<◌, ◌≤◌, Bool, true, sym, ap, subst, ◌∙◌, inl, inr, arith, bit_or}
use Rattle.std.specs.Int.{bit_at}
use Rattle.std.proofs.lemmas.Bool.{cases_lt}
use Rattle.std.proofs.lemmas.Grind.{low_zeros, or_before_shift}
use Rattle.std.proofs.lemmas.Nat.Bits.{bit_at-zero, bit_at_above, bit_at_cat_low, bit_at_cat_high}
use Rattle.memchr.specs.Find.{Nowhere, NoneBefore, NoneAfter}
use Rattle.byte_kernels.specs.Marks.{Marks}

module _ {test : ℕ → Bool} {from count marks : ℕ} (group : Marks test from count marks) where
  -- a bit that is set stands for one of the places
  pub set_within : (k : ℕ) → bit_at marks k ≡ 1 → k < count
  set_within k set = elim (cases_lt k count) [
    | inl lt ↦ lt
    | inr ge ↦ absurd (omega (arith, bit_at_above marks count k group.small ge))
  ]

  -- a place whose bit isn't set doesn't meet the test
  pub unset_fails : (place : ℕ) → from ≤ place → place < from + count → bit_at marks (place - from) ≡ 0 → ¬ (test place ≡ true)
  unset_fails place low high unset met =
      let same : place ≡ from + (place - from) = omega arith in
      let set = (group.each (place - from) (omega arith)).1 (subst (λ p. test p ≡ true) same met) in
      omega arith

  pub bit_met : (k : ℕ) → bit_at marks k ≡ 1 → test (from + k) ≡ true
  bit_met k set = (group.each k (set_within k set)).0 set

  module _ (none : marks ≡ 0) where
    clear : (k : ℕ) → bit_at marks k ≡ 0
    clear k = ap (λ m. bit_at m k) none ∙ bit_at-zero k

    -- no place was passed that meets the test, and the group has none
    pub passed_group : {start : ℕ} → Nowhere (λ place. test place ≡ true) start from → Nowhere (λ place. test place ≡ true) start (from + count)
    passed_group before k low high met = elim (cases_lt k from) [
      | inl lt ↦ before k low lt met
      | inr ge ↦ unset_fails k ge high (clear (k - from)) met
    ]

    pub passed_group_back : {to end : ℕ} → to ≡ from + count → Nowhere (λ place. test place ≡ true) to end → Nowhere (λ place. test place ≡ true) from end
    passed_group_back {to} {end} is after k low high met = elim (cases_lt k to) [
      | inl lt ↦ unset_fails k low (omega arith) (clear (k - from)) met
      | inr ge ↦ after k ge high met
    ]

  -- the lowest bit stands for the first place
  pub found_first : {start limit : ℕ} → start ≤ from → from + count ≤ limit → Nowhere (λ place. test place ≡ true) start from
      → (at : ℕ) → bit_at marks at ≡ 1 → ((k : ℕ) → k < at → bit_at marks k ≡ 0)
      → NoneBefore (λ place. test place ≡ true) start limit (from + at) × (test (from + at) ≡ true)
  found_first ordered within before at set unset =
      let lt = set_within at set in (
        record {
          low = omega arith;
          high = omega arith;
          before = λ k low high met. elim (cases_lt k from) [
            | inl passed ↦ before k low passed met
            | inr ge ↦ unset_fails k ge (omega arith) (unset (k - from) (omega arith)) met
          ];
        },
        bit_met at set,
      )

  -- the highest bit stands for the last place
  pub found_last : {to end : ℕ} → to ≡ from + count → to ≤ end → Nowhere (λ place. test place ≡ true) to end
      → (at : ℕ) → bit_at marks at ≡ 1 → ((k : ℕ) → at < k → bit_at marks k ≡ 0)
      → NoneAfter (λ place. test place ≡ true) 0 end (from + at) × (test (from + at) ≡ true)
  found_last {to} is within after at set unset =
      let lt = set_within at set in (
        record {
          low = omega arith;
          high = omega arith;
          after = λ k low high met. elim (cases_lt k to) [
            | inl passed ↦ unset_fails k (omega arith) (omega arith) (unset (k - from) (omega arith)) met
            | inr ge ↦ after k ge high met
          ];
        },
        bit_met at set,
      )

-- the marks of two groups, one behind the other
pub joined : {test : ℕ → Bool} {from low high : ℕ} (n both : ℕ) → both ≡ n + n → 2 ^ n ≡ 2 ^ low_zeros 128 (2 ^ n) → high * 2 ^ n < 2 ^ 64 → high * 2 ^ n + low < 2 ^ both
    → Marks test from n low → Marks test (from + n) n high → Marks test from both (bit_or low (high * 2 ^ n % 2 ^ 64))
joined {test} {from} {low} {high} n both is power fits small front back =
    let sum : bit_or low (high * 2 ^ n % 2 ^ 64) ≡ high * 2 ^ n + low = or_before_shift low high (2 ^ n) (2 ^ 64) power front.small fits in
    record {
      each = λ k lt. elim (cases_lt k n) [
        | inl below ↦
            let same = ap (λ m. bit_at m k) sum ∙ bit_at_cat_low high n low k below in
            let tells = front.each k below in
            (λ set. tells.0 (sym same ∙ set), λ met. same ∙ tells.1 met)
        | inr above ↦
            let same = ap (λ m. bit_at m k) sum ∙ bit_at_cat_high high n low k front.small above in
            let place : from + n + (k - n) ≡ from + k = omega arith in
            let tells = back.each (k - n) (omega arith) in
            (λ set. subst (λ p. test p ≡ true) place (tells.0 (sym same ∙ set)), λ met. same ∙ tells.1 (subst (λ p. test p ≡ true) (sym place) met))
      ];
      small = omega arith;
    }
