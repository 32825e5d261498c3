-- What the generated payloads are, and how long.
use Rattle.std.proofs.Common.{◌≡◌, ◌≢◌, ◌<◌, ◌≤◌, ◌+◌, ◌-◌, ◌*◌, ◌%◌, ℕ, zero, suc, List, [], ◌∷◌, ◌++◌, map, length, take, drop, get_or, refl, sym, ap, ◌∙◌, arith, zero-add, add-zero}
use Rattle.std.specs.Prelude.{IsNone, slice_index, slice_range}
use Rattle.std.specs.List.{AllByRecursion, range_with_len}
use Rattle.std.proofs.lemmas.Bool.{lt-ltb}
use Rattle.std.proofs.lemmas.Nat.{mod_below}
use Rattle.std.proofs.lemmas.List.{append-nil, append_assoc, drop-drop, drop-take, drop_at, get_or-map, length-append, length-map, length-take, take_at}
use Rattle.std.proofs.lemmas.List.FromFn.{length-range_with_len}
use Rattle.std.proofs.lemmas.Grind.{flat_map-append}
use Rattle.frame_model.specs.declared.framing.Framing.{Framing}
use Rattle.frame_model.specs.declared.framing.Framing.TheVariants.{Line}
use Rattle.frame_model.specs.Heads.{Layout, Counted, Lines, layout}
use Rattle.frame_model.specs.Spelling.{head_of, obstacle, obstacle_in, spelling, tail_of, text}
use Rattle.frame_model.proofs.FrameLemmas.{around, spelling_len}
use Rattle.frame_model.proofs.HeadLemmas.{IsLawful, lawful}
use Rattle.frame_model.proofs.SpellingLemmas.{spelt}
use Rattle.gen_core.specs.Generator.{payload, payload_len, payloads, run}

-- ---- the characters

abbrev printable : ℕ → ℕ
printable k = 32 + k % 95

-- a piece of a range
range_behind : (s a n : ℕ) → drop s (range_with_len a (s + n)) ≡ range_with_len (a + s) n
range_behind zero a n = rw (zero-add n, add-zero a) refl
range_behind (suc s) a n =
    let more : suc s + n ≡ suc (s + n) = omega arith in
    let place : a + 1 + s ≡ a + suc s = omega arith in
    ap (λ k. drop (suc s) (range_with_len a k)) more ∙ range_behind s (a + 1) n ∙ ap (λ k. range_with_len k n) place

range_front : (n m a : ℕ) → n ≤ m → take n (range_with_len a m) ≡ range_with_len a n
range_front zero m a within = refl
range_front (suc n) zero a within = absurd (omega (arith, within))
range_front (suc n) (suc m) a within = ap (λ l. a ∷ l) (range_front n m (a + 1) (omega (arith, within)))

drop_map : (f : ℕ → ℕ) (n : ℕ) (xs : List ℕ) → drop n (map f xs) ≡ map f (drop n xs)
drop_map f zero xs = refl
drop_map f (suc n) [] = refl
drop_map f (suc n) (x ∷ xs) = drop_map f n xs

take_map : (f : ℕ → ℕ) (n : ℕ) (xs : List ℕ) → take n (map f xs) ≡ map f (take n xs)
take_map f zero xs = refl
take_map f (suc n) [] = refl
take_map f (suc n) (x ∷ xs) = ap (λ l. f x ∷ l) (take_map f n xs)

shifted : (s a n : ℕ) → map printable (range_with_len (s + a) n) ≡ map (λ index. 32 + (s + index) % 95) (range_with_len a n)
shifted s a zero = refl
shifted s a (suc n) =
    let place : s + a + 1 ≡ s + (a + 1) = omega arith in
    ap (λ l. (32 + (s + a) % 95) ∷ l) (ap (λ k. map printable (range_with_len k n)) place ∙ shifted s (a + 1) n)

abbrev table : List ℕ
table = map printable (range_with_len 0 190)

-- a run is a piece of the table
pub piece : (s n k : ℕ) → s ≤ 94 → n ≤ 95 → k ≡ n → take k (drop s (map (λ k. 32 + k % 95) (range_with_len 0 190))) ≡ run s n
piece s n k start len is =
    let rest : 190 ≡ s + (190 - s) = omega (arith, start) in
    let behind : drop s table ≡ map printable (range_with_len s (190 - s)) =
    drop_map printable s (range_with_len 0 190) ∙ ap (λ m. map printable (drop s (range_with_len 0 m))) rest
    ∙ ap (map printable) (range_behind s 0 (190 - s)) ∙ ap (λ m. map printable (range_with_len m (190 - s))) (zero-add s) in
    ap (λ m. take m (drop s table)) is ∙ ap (take n) behind ∙ take_map printable n (range_with_len s (190 - s))
    ∙ ap (map printable) (range_front n (190 - s) s (omega (arith, start, len)))
    ∙ ap (λ m. map printable (range_with_len m n)) (sym (add-zero s)) ∙ shifted s 0 n

same_run : (t a n : ℕ) → map (λ index. 32 + (t % 95 + index) % 95) (range_with_len a n) ≡ map (λ index. 32 + (t + index) % 95) (range_with_len a n)
same_run t a zero = refl
same_run t a (suc n) =
    let same : 32 + (t % 95 + a) % 95 ≡ 32 + (t + a) % 95 = omega arith in
    ap (λ x. x ∷ map (λ index. 32 + (t % 95 + index) % 95) (range_with_len (a + 1) n)) same ∙ ap (λ l. (32 + (t + a) % 95) ∷ l) (same_run t (a + 1) n)

-- a run goes on where the characters begin again
pub run_from : (t n : ℕ) → run (t % 95) n ≡ run t n
run_from t n = same_run t 0 n

pub run_len : (start n : ℕ) → length (run start n) ≡ n
run_len start n = length-map (range_with_len 0 n) (λ index. 32 + (start + index) % 95) ∙ length-range_with_len 0 n

pub payload_is_short : (seed number : ℕ) → length (payload seed number) ≤ 95
payload_is_short seed number = omega (arith, run_len (seed + number) (payload_len seed number), mod_below (seed + 13 * number) 96 (omega arith))

-- ---- the frames

pub spelt_len : (f : Framing) (p : List ℕ) → length p ≤ 95 → length (spelling f p) ≤ 99
spelt_len f p short = let few = around f (length p) in omega (arith, spelling_len f p, few.1, short)

pub all_short : (seed number count : ℕ) → AllByRecursion (λ p. length p ≤ 95) (payloads seed number count)
all_short seed number zero = tt
all_short seed number (suc count) = (payload_is_short seed number, all_short seed (suc number) count)

pub count_is : (seed number count : ℕ) → length (payloads seed number count) ≡ count
count_is seed number zero = refl
count_is seed number (suc count) = ap suc (count_is seed (suc number) count)

pub all_small : (f : Framing) (seed number count : ℕ) → length (text f (payloads seed number count)) ≤ 99 * count
all_small f seed number zero = omega arith
all_small f seed number (suc count) =
    let p = payload seed number in
    omega (arith, all_small f seed (suc number) count, spelt_len f p (payload_is_short seed number), length-append (spelling f p) (text f (payloads seed (suc number) count)))

-- no payload has a line feed, and none is too long for a head
above : (seed number k : ℕ) → k < length (payload seed number) → slice_index (payload seed number) k ≢ 10
above seed number k lt is =
    let t = seed + number in
    let n = payload_len seed number in
    let at : k < n = omega (arith, lt, run_len t n) in
    let one : slice_index (payload seed number) k ≡ 32 + (t + get_or (range_with_len 0 n) k 0) % 95 =
    get_or-map (λ index. 32 + (t + index) % 95) (range_with_len 0 n) k 0 0 (omega (arith, at, length-range_with_len 0 n)) in
    omega (arith, is, one)

has_frame_in : (l : Layout) → IsLawful l → (seed number : ℕ) → IsNone (obstacle_in l (payload seed number))
has_frame_in (Counted heads) laws seed number = rw (lt-ltb (length (payload seed number)) heads.limit (omega (arith, payload_is_short seed number, laws.wide))) refl
has_frame_in Lines laws seed number = (spelt Line (payload seed number) (spelling Line (payload seed number)) (above seed number, refl)).0

pub has_frame : (f : Framing) (seed number : ℕ) → IsNone (obstacle f (payload seed number))
has_frame f = has_frame_in (layout f) (lawful f)

pub all_spellable : (f : Framing) (seed number count : ℕ) → AllByRecursion (λ p. IsNone (obstacle f p)) (payloads seed number count)
all_spellable f seed number zero = tt
all_spellable f seed number (suc count) = (has_frame f seed number, all_spellable f seed (suc number) count)

-- one payload more, behind the others
pub payloads_more : (seed number count : ℕ) → payloads seed number (count + 1) ≡ payloads seed number count ++ payload seed (number + count) ∷ []
payloads_more seed number zero = ap (λ n. payload seed n ∷ []) (sym (add-zero number))
payloads_more seed number (suc count) =
    let more : suc count + 1 ≡ suc (count + 1) = omega arith in
    let place : suc number + count ≡ number + suc count = omega arith in
    ap (λ n. payloads seed number n) more
    ∙ ap (λ l. payload seed number ∷ l) (payloads_more seed (suc number) count ∙ ap (λ n. payloads seed (suc number) count ++ payload seed n ∷ []) place)

pub text_more : (f : Framing) (seed count : ℕ) → length (text f (payloads seed 0 (count + 1))) ≡ length (text f (payloads seed 0 count)) + (length (head_of f (payload_len seed count)) + payload_len seed count + length (tail_of f))
text_more f seed count =
    let p = payload seed (0 + count) in
    let all = ap (λ ps. length (text f ps)) (payloads_more seed 0 count) ∙ ap length (flat_map-append (spelling f) (payloads seed 0 count) (p ∷ [])) in
    let len : length p ≡ payload_len seed count = ap (λ n. length (payload seed n)) (zero-add count) ∙ run_len (seed + count) (payload_len seed count) in
    omega (arith, all, length-append (text f (payloads seed 0 count)) (spelling f p ++ []), ap length (append-nil (spelling f p)), spelling_len f p, len, ap (λ n. length (head_of f n)) len)

-- the slice behind its first n bytes
pub slice_back : (xs : List ℕ) (a n c : ℕ) → a + n ≤ c → slice_range xs (a + n) c ≡ drop n (slice_range xs a c)
slice_back xs a n c within =
    let m = c - (a + n) in
    let size : n + m ≡ c - a = omega (arith, within) in
    ap (λ (ys : List ℕ). take m ys) (sym (drop-drop n a xs)) ∙ sym (drop-take n m (drop a xs)) ∙ ap (λ (k : ℕ). drop n (take k (drop a xs))) size

pub slice_len : (xs : List ℕ) (a b : ℕ) → length (slice_range xs a b) ≤ b - a
slice_len xs a b = omega (arith, length-take (b - a) (drop a xs))

-- the frame of the next payload is what comes next
pub refilled : (f : Framing) (seed next count : ℕ) → next < count → spelling f (payload seed next) ++ text f (payloads seed (next + 1) (count - (next + 1))) ≡ text f (payloads seed next (count - next))
refilled f seed next count lt =
    let more : count - next ≡ suc (count - (next + 1)) = omega (arith, lt) in
    let place : next + 1 ≡ suc next = omega arith in
    ap (λ n. spelling f (payload seed next) ++ text f (payloads seed n (count - (next + 1)))) place ∙ ap (λ n. text f (payloads seed next n)) (sym more)

no_bytes : (xs : List ℕ) → length xs ≡ 0 → xs ≡ []
no_bytes [] none = refl
no_bytes (x ∷ xs) none = absurd (omega (arith, none))

pub refilled_behind : (f : Framing) (seed next count : ℕ) (old new : List ℕ) → next < count → length old ≡ 0 → new ≡ spelling f (payload seed next)
    → new ++ text f (payloads seed (next + 1) (count - (next + 1))) ≡ old ++ text f (payloads seed next (count - next))
refilled_behind f seed next count old new lt none is =
    ap (λ l. l ++ text f (payloads seed (next + 1) (count - (next + 1)))) is ∙ refilled f seed next count lt ∙ ap (λ l. l ++ text f (payloads seed next (count - next))) (sym (no_bytes old none))

-- what was given and the bytes behind it stand at the front of the buffer
pub copied_more : (given more first buf new : List ℕ) (done n : ℕ) → done ≡ length given → n ≡ length more → buf ≡ given ++ drop (length given) first → new ≡ take done buf ++ (more ++ drop (done + n) buf)
    → new ≡ (given ++ more) ++ drop (length (given ++ more)) first
copied_more given more first buf new done n counted size copied is =
    let rest = drop (length given) first in
    let front : take done buf ≡ given = ap (take done) copied ∙ take_at given rest done (sym counted) in
    let there : drop done buf ≡ rest = ap (drop done) copied ∙ drop_at given rest done (sym counted) in
    let whole : length given + n ≡ length (given ++ more) = omega (arith, size, length-append given more) in
    let back : drop (done + n) buf ≡ drop (length (given ++ more)) first =
    sym (drop-drop n done buf) ∙ ap (drop n) there ∙ drop-drop n (length given) first ∙ ap (λ k. drop k first) whole in
    is ∙ ap (λ l. l ++ (more ++ drop (done + n) buf)) front ∙ ap (λ l. given ++ (more ++ l)) back ∙ sym (append_assoc given more (drop (length (given ++ more)) first))
