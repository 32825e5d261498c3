-- Bits of tables, looked up lane by lane.
use Rattle.std.proofs.Common.{◌≡◌, ℕ, ◌+◌, ◌*◌, ◌/◌, ◌%◌, ◌^◌, ◌<◌, cond, eqb, ltb, List, [], ◌∷◌, length, get_or, map, replicate, take, drop, refl, sym, ap, ◌∙◌, inl, inr, arith, w8, bit_and, Fits, pow_pos}
use Rattle.std.specs.Int.{bit_at}
use Rattle.std.specs.Simd.Lanes.{Each1, chunk, sel_l, top, zip2}
use Rattle.byte_kernels.specs.Marks.{all_bits_where}
use Rattle.byte_kernels.proofs.LaneLemmas.{chosen_where, sel_of_maps}
use Rattle.byte_kernels.specs.declared.table.TheConstants.{COLUMNS}
use Rattle.std.proofs.lemmas.List.FromFn.{get_or-map-range_with_len}
use Rattle.std.proofs.lemmas.Bool.{cases_lt, cases_eq, eq-eqb, ne_eqb, lt-ltb, le-ltb}
use Rattle.std.proofs.lemmas.Grind.{same_number_lists}
use Rattle.std.proofs.lemmas.List.{get_or-map, length-map}
use Rattle.std.proofs.lemmas.Nat.{and_mask}
use Rattle.std.proofs.lemmas.Nat.Bits.{and_pow, bit_at-lt}
use Rattle.std.proofs.lemmas.Simd.{swz_l, length-swz_l, get_or-swz_l_below, Each1-get_or, get_or-chunk, map-map, zip2_of_maps, zip2_splat, tops_compared}

-- ---- lists that are computed lane by lane

pub map_each : {X Y : Type 0} (P : X → Type 0) (f g : X → Y) → ((x : X) → P x → f x ≡ g x) → (xs : List X) → Each1 P xs → map f xs ≡ map g xs
map_each P f g same [] each = refl
map_each P f g same (x ∷ xs) each = λ i. same x each.0 i ∷ map_each P f g same xs each.1 i

pub Each1-map : {X Y : Type 0} (P : X → Type 0) (Q : Y → Type 0) (f : X → Y) → ((x : X) → P x → Q (f x)) → (xs : List X) → Each1 P xs → Each1 Q (map f xs)
Each1-map P Q f holds [] each = tt
Each1-map P Q f holds (x ∷ xs) each = (holds x each.0, Each1-map P Q f holds xs each.1)

-- ---- the steps of a look-up

pub looked_up_is : (table at : List ℕ) → length at ≡ 16 → Each1 (λ index. index < 16) at → swz_l w8 16 table 0 at ≡ map (λ index. get_or table index 0) at
looked_up_is table at long small =
    same_number_lists (swz_l w8 16 table 0 at) (map (λ index. get_or table index 0) at) (length-swz_l w8 16 table 0 at ∙ sym (length-map at (λ index. get_or table index 0))) (λ k lt.
    let within : k < length at = omega (arith, length-swz_l w8 16 table 0 at) in
    let below : get_or at k 0 < 16 = Each1-get_or (λ index. index < 16) at k 0 within small in
    let place : 16 * ((0 + k) / 16) + get_or at k 0 ≡ get_or at k 0 = omega arith in
    get_or-swz_l_below w8 16 table 0 at k within below
    ∙ ap (λ j. get_or table j 0) place
    ∙ sym (get_or-map (λ index. get_or table index 0) at k 0 0 within))

pub low_halves_are : (bytes : List ℕ) → length bytes ≡ 16 → zip2 bit_and bytes (replicate 16 15) ≡ map (λ byte. byte % 16) bytes
low_halves_are bytes long = zip2_splat bit_and bytes 16 15 long ∙ (λ i. map (λ byte. and_mask byte 4 i) bytes)

pub high_halves_are : (bytes : List ℕ) → length bytes ≡ 16 → zip2 (λ a b. a / 2 ^ b) bytes (replicate 16 4) ≡ map (λ byte. byte / 16) bytes
high_halves_are bytes long = zip2_splat (λ a b. a / 2 ^ b) bytes 16 4 long

-- ---- a bit of a row

alone : (row column : ℕ) → eqb (bit_and row (2 ^ column)) (2 ^ column) ≡ eqb (bit_at row column) 1
alone row column =
    let power = pow_pos column in
    let both : bit_and row (2 ^ column) ≡ bit_at row column * 2 ^ column = and_pow row column in
    elim (cases_eq (bit_at row column) 1) [
      | inl set ↦
          let one : bit_and row (2 ^ column) ≡ 2 ^ column = both ∙ ap (λ bit. bit * 2 ^ column) set ∙ omega arith in
          eq-eqb _ _ one ∙ sym (eq-eqb _ _ set)
      | inr unset ↦
          let clear : bit_at row column ≡ 0 = omega (arith, bit_at-lt row column) in
          let none : bit_and row (2 ^ column) ≡ 0 = both ∙ ap (λ bit. bit * 2 ^ column) clear ∙ omega arith in
          ne_eqb _ _ (λ is. omega arith) ∙ sym (ne_eqb _ _ unset)
    ]

pub lanes_of_rows : (row column : ℕ → ℕ) (bytes rows columns : List ℕ) → length bytes ≡ 16 → rows ≡ map row bytes → columns ≡ map (λ byte. 2 ^ column byte) bytes
    → sel_l (map (top 7) (zip2 (λ a b. cond (eqb a b) 255 0) (zip2 bit_and rows columns) columns)) (replicate 16 255) (replicate 16 0)
    ≡ all_bits_where (λ byte. eqb (bit_at (row byte) (column byte)) 1) bytes
lanes_of_rows row column bytes rows columns long rows_are columns_are =
    let bit = λ (byte : ℕ). 2 ^ column byte in
    let both = zip2_of_maps bit_and row bit bytes rows_are columns_are in
    let tests = zip2_of_maps eqb (λ byte. bit_and (row byte) (bit byte)) bit bytes both columns_are in
    chosen_where (λ byte. eqb (bit_at (row byte) (column byte)) 1) bytes long
    (tops_compared w8 eqb (zip2 bit_and rows columns) columns ∙ tests ∙ (λ i. map (λ byte. alone (row byte) (column byte) i) bytes))

column_at : (half : ℕ) → half < 16 → get_or COLUMNS half 0 ≡ 2 ^ (half % 8)
column_at half lt = get_or-map-range_with_len (λ h. 2 ^ (h % 8)) 0 16 half half 0 lt (omega arith)

pub columns_are : (bytes halves columns : List ℕ) → Each1 (Fits w8) bytes → halves ≡ map (λ byte. byte / 16) bytes → columns ≡ map (λ index. get_or COLUMNS index 0) halves → columns ≡ map (λ byte. 2 ^ (byte / 16 % 8)) bytes
columns_are bytes halves columns fits halves_are is =
    is
    ∙ ap (map (λ index. get_or COLUMNS index 0)) halves_are
    ∙ map-map (λ index. get_or COLUMNS index 0) (λ byte. byte / 16) bytes
    ∙ map_each (Fits w8) (λ byte. get_or COLUMNS (byte / 16) 0) (λ byte. 2 ^ (byte / 16 % 8)) (λ byte fit. column_at (byte / 16) (omega (arith, fit.fits))) bytes fits

-- 16 rows, from one on
pub loaded_rows : (rows : List ℕ) (from k : ℕ) → k < 16 → get_or (chunk 0 16 (take 16 (drop from rows))) k 0 ≡ get_or rows (from + k) 0
loaded_rows rows from k lt = get_or-chunk 0 16 (take 16 (drop from rows)) k 0 lt ∙ ap (λ j. get_or (take 16 (drop from rows)) j 0) (omega arith) ∙ get_or-chunk from 16 rows k 0 lt

module _ (rows first second : List ℕ) (in_first : (k : ℕ) → k < 16 → get_or first k 0 ≡ get_or rows (0 + k) 0) (in_second : (k : ℕ) → k < 16 → get_or second k 0 ≡ get_or rows (16 + k) 0) where
  chosen : (byte : ℕ) → byte < 256 → cond (ltb byte 128) (get_or first (byte % 16) 0) (get_or second (byte % 16) 0) ≡ get_or rows (byte % 16 + 16 * (byte / 128)) 0
  chosen byte fits = elim (cases_lt byte 128) [
    | inl low ↦ rw (lt-ltb byte 128 low) (in_first (byte % 16) (omega arith) ∙ ap (λ k. get_or rows k 0) (omega arith))
    | inr high ↦ rw (le-ltb byte 128 high) (in_second (byte % 16) (omega arith) ∙ ap (λ k. get_or rows k 0) (omega arith))
  ]

  pub rows_are : (bytes at front back : List ℕ) → length bytes ≡ 16 → Each1 (Fits w8) bytes → at ≡ map (λ byte. byte % 16) bytes
      → front ≡ map (λ index. get_or first index 0) at → back ≡ map (λ index. get_or second index 0) at
      → sel_l (map (top 7) (zip2 (λ a b. cond (ltb a b) 255 0) bytes (replicate 16 128))) front back ≡ map (λ byte. get_or rows (byte % 16 + 16 * (byte / 128)) 0) bytes
  rows_are bytes at front back long fits at_is front_is back_is =
      let half = λ (byte : ℕ). byte % 16 in
      let in_front = λ (byte : ℕ). get_or first (half byte) 0 in
      let in_back = λ (byte : ℕ). get_or second (half byte) 0 in
      let low = tops_compared w8 ltb bytes (replicate 16 128) ∙ zip2_splat ltb bytes 16 128 long in
      let fronts = front_is ∙ ap (map (λ index. get_or first index 0)) at_is ∙ map-map (λ index. get_or first index 0) half bytes in
      let backs = back_is ∙ ap (map (λ index. get_or second index 0)) at_is ∙ map-map (λ index. get_or second index 0) half bytes in
      (λ i. sel_l (low i) (fronts i) (backs i))
      ∙ sel_of_maps (λ byte. ltb byte 128) in_front in_back bytes
      ∙ map_each (Fits w8) (λ byte. cond (ltb byte 128) (in_front byte) (in_back byte)) (λ byte. get_or rows (byte % 16 + 16 * (byte / 128)) 0) (λ byte fit. chosen byte (omega (arith, fit.fits))) bytes fits
