-- The bits of a set.
use Rattle.std.proofs.Common.{◌≡◌, ◌≢◌, ◌↔◌, ◌*◌, ◌/◌, ◌%◌, ◌^◌, ◌<◌, ℕ, Bool, true, false, ◌||◌, eqb, List, length, get_or, set, refl, sym, ap, ◌∙◌, inl, inr, arith, bit_or, Contains, get_or-set_same, get_or-set_other, replicate, w8, ◌+◌}
use Rattle.std.specs.Int.{bit_at}
use Rattle.std.specs.List.{list_any}
use Rattle.std.proofs.lemmas.Bool.{cases_lt, eqb-true, eq-eqb, ne_eqb}
use Rattle.std.proofs.lemmas.Bool.Decides.{eqb_tells}
use Rattle.std.proofs.lemmas.List.{get_or_default, get_or_past, get_or-replicate, length-replicate}
use Rattle.std.proofs.lemmas.List.Folds.{Any-from_list_any, list_any-from_Any}
use Rattle.std.proofs.lemmas.Nat.Bits.{bit_at-zero, bit_at_set_same, bit_at_set_other}

or-true : (b : Bool) → (b || true) ≡ true
or-true true = refl
or-true false = refl

or-false : (b : Bool) → (b || false) ≡ b
or-false true = refl
or-false false = refl

abbrev row_of : ℕ → ℕ
row_of byte = byte % 16 + 16 * (byte / 128)

abbrev has : List ℕ → ℕ → Bool
has rows byte = eqb (bit_at (get_or rows (row_of byte) 0) (byte / 16 % 8)) 1

-- the rows with one more bit
abbrev with_bit : List ℕ → ℕ → ℕ → List ℕ
with_bit rows i k = set rows i (bit_or (get_or rows i 0) (1 * 2 ^ k % 2 ^ 8))

pub has-with_bit : (rows : List ℕ) (byte i other : ℕ) → i ≡ row_of byte → i < length rows → has (with_bit rows i (byte / 16 % 8)) other ≡ (has rows other || eqb other byte)
has-with_bit rows byte i other e lt =
    let column = λ (b : ℕ). b / 16 % 8 in
    let old = get_or rows i 0 in
    let new = bit_or old (1 * 2 ^ column byte % 2 ^ 8) in
    let within : column byte < 8 = omega arith in
    elim (eqb_tells (row_of other) i) [
      | inl row ↦
          let here : get_or (with_bit rows i (column byte)) (row_of other) 0 ≡ new =
          ap (λ j. get_or (with_bit rows i (column byte)) j 0) row.1 ∙ get_or-set_same rows i new 0 lt in
          elim (eqb_tells (column other) (column byte)) [
            | inl bit ↦
                let is : other ≡ byte = omega (arith, e, row.1, bit.1) in
                ap (λ w. eqb (bit_at w (column other)) 1) here
                ∙ ap (λ k. eqb (bit_at new k) 1) bit.1
                ∙ ap (λ n. eqb n 1) (bit_at_set_same w8 old (column byte) within)
                ∙ sym (ap (λ b. has rows other || b) (eq-eqb other byte is) ∙ or-true (has rows other))
            | inr bit ↦
                let ne : other ≢ byte = λ is. bit.1 (ap column is) in
                ap (λ w. eqb (bit_at w (column other)) 1) here
                ∙ ap (λ n. eqb n 1) (bit_at_set_other w8 old (column byte) within (column other) bit.1)
                ∙ ap (λ j. eqb (bit_at (get_or rows j 0) (column other)) 1) (sym row.1)
                ∙ sym (ap (λ b. has rows other || b) (ne_eqb other byte ne) ∙ or-false (has rows other))
          ]
      | inr row ↦
          let ne : other ≢ byte = λ is. row.1 (ap row_of is ∙ sym e) in
          ap (λ w. eqb (bit_at w (column other)) 1) (get_or-set_other rows i (row_of other) new 0 row.1)
          ∙ sym (ap (λ b. has rows other || b) (ne_eqb other byte ne) ∙ or-false (has rows other))
    ]

-- rows without a bit have no byte
pub empty-has_none : (n byte : ℕ) → has (replicate n 0) byte ≡ false
empty-has_none n byte =
    let none : get_or (replicate n 0) (row_of byte) 0 ≡ 0 = elim (cases_lt (row_of byte) n) [
      | inl lt ↦ get_or-replicate n (row_of byte) 0 0 lt
      | inr ge ↦ get_or_past (replicate n 0) (row_of byte) 0 (omega (arith, length-replicate {A = ℕ} n 0))
    ] in
    ap (λ row. eqb (bit_at row (byte / 16 % 8)) 1) none ∙ ap (λ bit. eqb bit 1) (bit_at-zero (byte / 16 % 8))

-- a list has a byte exactly where one of its members is that byte
pub any_is_contained : (byte : ℕ) (bytes : List ℕ) → (list_any (λ member. eqb byte member) bytes ≡ true) ↔ Contains bytes byte
any_is_contained byte bytes = (
  λ some.
      let at = Any-from_list_any (λ member. eqb byte member) bytes some in
      let k = at.0 in
      let same : get_or bytes k byte ≡ byte = get_or_default bytes k byte (at.1) at.2 ∙ at.3 ∙ sym (eqb-true byte at.1 at.4) in
      (k, at.2, same),
  λ has. list_any-from_Any (λ member. eqb byte member) bytes (has.0, byte, has.1, has.2, eq-eqb byte byte refl),
)
