-- Masks of vectors, as marks.
use Rattle.std.proofs.Common.{◌≡◌, ◌++◌, ◌↔◌, ℕ, ◌+◌, ◌-◌, ◌%◌, ◌^◌, ◌<◌, ◌≤◌, Bool, true, false, not, cond, eqb, leb, ◌&&◌, ◌||◌, List, [], ◌∷◌, length, get_or, map, replicate, take, drop, refl, sym, ap, subst, ◌∙◌, arith, w8, bit_and, bit_or, bit_xor}
use Rattle.std.specs.Int.{bit_at}
use Rattle.std.specs.Simd.Lanes.{chunk, mask_l, sel_l, top, zip2}
use Rattle.std.specs.List.{count_by}
use Rattle.std.specs.Prelude.{count_ones}
use Rattle.std.proofs.lemmas.List.{get_or-map, length-map, take_at, take_rest}
use Rattle.std.proofs.lemmas.List.Sums.{sum_by-append}
use Rattle.std.proofs.Math.Seq.{take-add}
use Rattle.std.proofs.lemmas.Simd.{length-chunk, get_or-chunk, length-zip2, get_or-zip2, map-map, tops_compared, zip2_splat, zip2_splat_left, zip2-map, zip2_of_maps, splat_is_map, mask_l-lt, mask_l-mod, bit_mask_l, ones-mask_l, chunk-drop}
use Rattle.byte_kernels.specs.Marks.{Marks, all_bits_where}

tells : (b : Bool) → (cond {A = ℕ} b 1 0 ≡ 1) ↔ (b ≡ true)
tells true = (λ _. refl, λ _. refl)
tells false = (λ e. absurd (omega (arith, e)), λ e. absurd cc)

-- a mask whose lanes are what places meet
pub marks_of_mask : {test : ℕ → Bool} {from count : ℕ} (lanes : List Bool) → length lanes ≡ count → ((k : ℕ) → k < count → get_or lanes k false ≡ test (from + k)) → Marks test from count (mask_l lanes)
marks_of_mask {test} {from} lanes long same = record {
  each = λ k lt.
      let bit : bit_at (mask_l lanes) k ≡ cond (test (from + k)) 1 0 = bit_mask_l lanes k ∙ ap (λ b. cond b 1 0) (same k lt) in
      let both = tells (test (from + k)) in
      (λ set. both.0 (sym bit ∙ set), λ met. bit ∙ both.1 met);
  small = omega (arith, mask_l-lt lanes, ap (λ n. 2 ^ n) long);
}

-- the bytes of a load are those of the slice
pub loaded : (n from : ℕ) (bytes : List ℕ) → from + n ≤ length bytes → (k : ℕ) → k < n → get_or (chunk 0 n (take (length bytes - from) (drop from bytes))) k 0 ≡ get_or bytes (from + k) 0
loaded n from bytes room k lt = ap (λ rest. get_or (chunk 0 n rest) k 0) (take_rest bytes from) ∙ get_or-chunk from n bytes k 0 lt

pub length-loaded : (n from : ℕ) (bytes : List ℕ) → from + n ≤ length bytes → length (chunk 0 n (take (length bytes - from) (drop from bytes))) ≡ n
length-loaded n from bytes room = ap (λ rest. length (chunk 0 n rest)) (take_rest bytes from) ∙ length-chunk from n bytes room

-- marks of the bytes of a load
pub marks_of_load : (meets : ℕ → Bool) (n from : ℕ) (bytes : List ℕ) → from + n ≤ length bytes → {marks : ℕ} → marks ≡ mask_l (map meets (chunk 0 n (take (length bytes - from) (drop from bytes)))) → Marks (λ place. meets (get_or bytes place 0)) from n marks
marks_of_load meets n from bytes room is =
    let load = chunk 0 n (take (length bytes - from) (drop from bytes)) in
    let long = length-loaded n from bytes room in
    subst (Marks (λ place. meets (get_or bytes place 0)) from n) (sym is)
    (marks_of_mask (map meets load) (length-map load meets ∙ long) (λ k lt. get_or-map meets load k 0 false (omega arith) ∙ ap meets (loaded n from bytes room k lt)))

-- ---- vectors that have all bits where a test is met

pub sel_of_maps : {X : Type 0} (p : X → Bool) (f g : X → ℕ) (xs : List X) → sel_l (map p xs) (map f xs) (map g xs) ≡ map (λ x. cond (p x) (f x) (g x)) xs
sel_of_maps p f g [] = refl
sel_of_maps p f g (x ∷ xs) = ap (λ rest. cond (p x) (f x) (g x) ∷ rest) (sel_of_maps p f g xs)

pub chosen_where : (meets : ℕ → Bool) (bytes : List ℕ) {lanes : List Bool} → length bytes ≡ 16 → lanes ≡ map meets bytes → sel_l lanes (replicate 16 255) (replicate 16 0) ≡ all_bits_where meets bytes
chosen_where meets bytes long is =
    (λ i. sel_l (is i) (splat_is_map bytes 16 255 long i) (splat_is_map bytes 16 0 long i))
    ∙ sel_of_maps meets (λ _. 255) (λ _. 0) bytes

pub lanes_of_byte : (byte : ℕ) (bytes : List ℕ) → length bytes ≡ 16
    → sel_l (map (top 7) (zip2 (λ a b. cond (eqb a b) 255 0) bytes (replicate 16 byte))) (replicate 16 255) (replicate 16 0) ≡ all_bits_where (λ other. eqb other byte) bytes
lanes_of_byte byte bytes long = chosen_where (λ other. eqb other byte) bytes long (tops_compared w8 eqb bytes (replicate 16 byte) ∙ zip2_splat eqb bytes 16 byte long)

both_top : (p q : Bool) → top 7 (bit_and (cond p 255 0) (cond q 255 0)) ≡ (p && q)
both_top true true = refl
both_top true false = refl
both_top false true = refl
both_top false false = refl

pub lanes_of_range : (low high : ℕ) (bytes : List ℕ) → length bytes ≡ 16
    → sel_l (map (top 7) (zip2 bit_and (zip2 (λ a b. cond (leb a b) 255 0) (replicate 16 low) bytes) (zip2 (λ a b. cond (leb a b) 255 0) bytes (replicate 16 high)))) (replicate 16 255) (replicate 16 0)
    ≡ all_bits_where (λ byte. leb low byte && leb byte high) bytes
lanes_of_range low high bytes long =
    let compare = λ (a b : ℕ). cond {A = ℕ} (leb a b) 255 0 in
    chosen_where (λ byte. leb low byte && leb byte high) bytes long
    ((λ i. map (top 7) (zip2 bit_and (zip2_splat_left compare low 16 bytes long i) (zip2_splat compare bytes 16 high long i)))
    ∙ ap (map (top 7)) (zip2-map bit_and (compare low) (λ byte. compare byte high) bytes)
    ∙ map-map (top 7) (λ byte. bit_and (compare low byte) (compare byte high)) bytes
    ∙ (λ i. map (λ byte. both_top (leb low byte) (leb byte high) i) bytes))

either_bits : (p q : Bool) → bit_or (cond p 255 0) (cond q 255 0) ≡ cond (p || q) 255 0
either_bits true true = refl
either_bits true false = refl
either_bits false true = refl
either_bits false false = refl

pub lanes_of_either : (p q : ℕ → Bool) (bytes a b : List ℕ) → a ≡ all_bits_where p bytes → b ≡ all_bits_where q bytes → zip2 bit_or a b ≡ all_bits_where (λ byte. p byte || q byte) bytes
lanes_of_either p q bytes a b a_is b_is =
    zip2_of_maps bit_or (λ byte. cond (p byte) 255 0) (λ byte. cond (q byte) 255 0) bytes a_is b_is
    ∙ (λ i. map (λ byte. either_bits (p byte) (q byte) i) bytes)

other_bits : (p : Bool) → bit_xor (cond p 255 0) 255 ≡ cond (not p) 255 0
other_bits true = refl
other_bits false = refl

pub lanes_of_others : (meets : ℕ → Bool) (bytes lanes : List ℕ) → length bytes ≡ 16 → lanes ≡ all_bits_where meets bytes → zip2 bit_xor lanes (replicate 16 255) ≡ all_bits_where (λ byte. not (meets byte)) bytes
lanes_of_others meets bytes lanes long is =
    let bits = λ (byte : ℕ). cond {A = ℕ} (meets byte) 255 0 in
    zip2_splat bit_xor lanes 16 255 (ap length is ∙ length-map bytes bits ∙ long)
    ∙ ap (map (λ lane. bit_xor lane 255)) is
    ∙ map-map (λ lane. bit_xor lane 255) bits bytes
    ∙ (λ i. map (λ byte. other_bits (meets byte) i) bytes)

top_of_bits : (p : Bool) → leb 128 (cond p 255 0) ≡ p
top_of_bits true = refl
top_of_bits false = refl

-- the marks of such a vector
pub marks_of_lanes : (meets : ℕ → Bool) (bytes lanes : List ℕ) → length bytes ≡ 16 → lanes ≡ all_bits_where meets bytes
    → mask_l (map (top 7) (zip2 (λ a b. cond (leb a b) 255 0) (replicate 16 128) lanes)) % 2 ^ 64 ≡ mask_l (map meets bytes)
marks_of_lanes meets bytes lanes long is =
    let bits = λ (byte : ℕ). cond {A = ℕ} (meets byte) 255 0 in
    ap (λ marks. mask_l marks % 2 ^ 64)
    (tops_compared w8 leb (replicate 16 128) lanes
    ∙ zip2_splat_left leb 128 16 lanes (ap length is ∙ length-map bytes bits ∙ long)
    ∙ ap (map (leb 128)) is
    ∙ map-map (leb 128) bits bytes
    ∙ (λ i. map (λ byte. top_of_bits (meets byte) i) bytes))
    ∙ mask_l-mod (map meets bytes) 64 (omega (arith, length-map bytes meets))

pub marks_of_load_lanes : (meets : ℕ → Bool) (from : ℕ) (bytes lanes : List ℕ) → from + 16 ≤ length bytes → lanes ≡ all_bits_where meets (chunk 0 16 (take (length bytes - from) (drop from bytes)))
    → Marks (λ place. meets (get_or bytes place 0)) from 16 (mask_l (map (top 7) (zip2 (λ a b. cond (leb a b) 255 0) (replicate 16 128) lanes)) % 2 ^ 64)
marks_of_load_lanes meets from bytes lanes room is =
    marks_of_load meets 16 from bytes room (marks_of_lanes meets (chunk 0 16 (take (length bytes - from) (drop from bytes))) lanes (length-loaded 16 from bytes room) is)

-- the places at which two lists differ
pub marks_of_difference : (n from : ℕ) (a b : List ℕ) → n ≤ 64 → from + n ≤ length a → from + n ≤ length b
    → Marks (λ place. not (eqb (get_or a place 0) (get_or b place 0))) from n
    (mask_l (map (top 7) (zip2 (λ x y. cond (not (eqb x y)) 255 0) (chunk 0 n (take (length a - from) (drop from a))) (chunk 0 n (take (length b - from) (drop from b))))) % 2 ^ 64)
marks_of_difference n from a b small room_a room_b =
    let differ = λ (x y : ℕ). not (eqb x y) in
    let test = λ (place : ℕ). differ (get_or a place 0) (get_or b place 0) in
    let load_a = chunk 0 n (take (length a - from) (drop from a)) in
    let load_b = chunk 0 n (take (length b - from) (drop from b)) in
    let long_a = length-loaded n from a room_a in
    let long_b = length-loaded n from b room_b in
    let long = length-zip2 differ load_a load_b (long_a ∙ sym long_b) ∙ long_a in
    let is = ap (λ lanes. mask_l lanes % 2 ^ 64) (tops_compared w8 differ load_a load_b) ∙ mask_l-mod (zip2 differ load_a load_b) 64 (omega arith) in
    subst (Marks test from n) (sym is)
    (marks_of_mask (zip2 differ load_a load_b) long (λ k lt.
    get_or-zip2 differ load_a load_b k 0 0 false (omega arith) (omega arith)
    ∙ (λ i. differ (loaded n from a room_a k lt i) (loaded n from b room_b k lt i))))

-- ---- how many bytes of a load meet a test

loaded_is : (from : ℕ) (bytes : List ℕ) → from + 16 ≤ length bytes → chunk from 16 bytes ≡ take 16 (drop from bytes)
loaded_is from bytes room = sym (ap (take 16) (chunk-drop from 16 bytes) ∙ take_at (chunk from 16 bytes) (drop (from + 16) bytes) 16 (length-chunk from 16 bytes room))

pub count_of_load : (meets : ℕ → Bool) (from : ℕ) (bytes lanes : List ℕ) → from + 16 ≤ length bytes → lanes ≡ all_bits_where meets (chunk from 16 bytes)
    → count_ones (mask_l (map (top 7) (zip2 (λ a b. cond (leb a b) 255 0) (replicate 16 128) lanes)) % 2 ^ 64) ≡ count_by meets (take 16 (drop from bytes))
count_of_load meets from bytes lanes room is =
    let load = chunk from 16 bytes in
    ap count_ones (marks_of_lanes meets load lanes (length-chunk from 16 bytes room) is) ∙ ones-mask_l meets load ∙ ap (count_by meets) (loaded_is from bytes room)

-- a count of bytes, part by part
pub count_parts : (meets : ℕ → Bool) (xs ys : List ℕ) → count_by meets (xs ++ ys) ≡ count_by meets xs + count_by meets ys
count_parts meets xs ys = sum_by-append _ xs ys

pub count_more : (meets : ℕ → Bool) (n k : ℕ) (xs : List ℕ) → count_by meets (take (n + k) xs) ≡ count_by meets (take n xs) + count_by meets (take k (drop n xs))
count_more meets n k xs = ap (count_by meets) (take-add n k xs) ∙ count_parts meets (take n xs) (take k (drop n xs))

pub counted_more : (meets : ℕ → Bool) (n k count more : ℕ) (xs : List ℕ) → count ≡ count_by meets (take n xs) → more ≡ count_by meets (take k (drop n xs)) → count + more ≡ count_by meets (take (n + k) xs)
counted_more meets n k count more xs so_far then = omega (arith, so_far, then, count_more meets n k xs)
