-- Parts of a room, and what becomes of them.
use Rattle.std.proofs.Common.{◌≡◌, ◌≤◌, ◌+◌, ◌-◌, ◌*◌, ℕ, true, false, List, [], ◌++◌, length, take, drop, refl, sym, ap, ◌∙◌, inl, inr, arith, append_assoc}
use Rattle.std.specs.Prelude.{replicate, slice_range, Vec}
use Rattle.std.specs.Vec.{with_items_from}
use Rattle.std.specs.List.{copy_within}
use Rattle.std.proofs.lemmas.Bool.{cases_lt}
use Rattle.std.proofs.lemmas.List.{length-append, length-take, length-drop, take_at, drop_at, drop-take, drop-drop, take-take, take-append-le, take-replicate}
use Rattle.std.proofs.Math.Seq.{take-add, take-append-add}
use Rattle.pipe_core.specs.Bytes.{Bytes, with_draft, with_committed, overwritten, settled, parts, IsLaidOut}
use Rattle.pipe_core.specs.Lending.{with_free}

abbrev parts_of : List ℕ → List ℕ → List ℕ → Bytes
parts_of held draft free = record { held = held; draft = draft; free = free }

same_parts : (a a' b b' d d' : List ℕ) → a ≡ a' → b ≡ b' → d ≡ d' → parts_of a b d ≡ parts_of a' b' d'
same_parts a a' b b' d d' e f g = rw (e, f, g) refl

pub empty_slice : (xs : List ℕ) (a : ℕ) → slice_range xs a a ≡ []
empty_slice xs a = let none : a - a ≡ 0 = omega arith in rw none refl

-- a part and the one behind it
pub slice_join : (xs : List ℕ) (a b c : ℕ) → a ≤ b → b ≤ c → slice_range xs a b ++ slice_range xs b c ≡ slice_range xs a c
slice_join xs a b c low high =
    let k = b - a in
    let l = c - b in
    let there : a + k ≡ b = omega arith in
    let size : k + l ≡ c - a = omega arith in
    let rest : drop b xs ≡ drop k (drop a xs) = ap (λ (i : ℕ). drop i xs) (sym there) ∙ sym (drop-drop k a xs) in
    ap (λ (ys : List ℕ). take k (drop a xs) ++ take l ys) rest ∙ sym (take-add k l (drop a xs)) ∙ ap (λ (n : ℕ). take n (drop a xs)) size

-- the front and the rest of a part
pub slice_front : (xs : List ℕ) (a n c : ℕ) → a + n ≤ c → slice_range xs a (a + n) ≡ take n (slice_range xs a c)
slice_front xs a n c within =
    let size : a + n - a ≡ n = omega arith in
    ap (λ (m : ℕ). take m (drop a xs)) size ∙ sym (take-take n (c - a) (drop a xs) (omega arith))

pub slice_back : (xs : List ℕ) (a n c : ℕ) → a + n ≤ c → slice_range xs (a + n) c ≡ drop n (slice_range xs a c)
slice_back xs a n c within =
    let m = c - (a + n) in
    let size : n + m ≡ c - a = omega arith in
    ap (λ (ys : List ℕ). take m ys) (sym (drop-drop n a xs)) ∙ sym (drop-take n m (drop a xs)) ∙ ap (λ (k : ℕ). drop n (take k (drop a xs))) size

pub slice_len : (xs : List ℕ) (a b : ℕ) → length (slice_range xs a b) ≤ b - a
slice_len xs a b = omega (arith, length-take (b - a) (drop a xs))

pub slice_whole : (xs : List ℕ) (a b : ℕ) → a ≤ b → b ≤ length xs → length (slice_range xs a b) ≡ b - a
slice_whole xs a b low high = omega (arith, length-take (b - a) (drop a xs), length-drop a xs)

-- where two lists have one front, they have the same parts in it
pub same_front : (n a b : ℕ) (xs ys : List ℕ) → a ≤ b → b ≤ n → take n xs ≡ take n ys → slice_range xs a b ≡ slice_range ys a b
same_front n a b xs ys low high e =
    let k = b - a in
    let size : a + k ≡ b = omega arith in
    let front : take b xs ≡ take b ys = sym (take-take b n xs high) ∙ ap (λ (zs : List ℕ). take b zs) e ∙ take-take b n ys high in
    sym (drop-take a k xs) ∙ ap (λ (m : ℕ). drop a (take m xs)) size ∙ ap (λ (zs : List ℕ). drop a zs) front ∙ sym (ap (λ (m : ℕ). drop a (take m ys)) size) ∙ drop-take a k ys

-- a part of what was moved to the front
moved : (xs : List ℕ) (i j a b : ℕ) → i ≤ j → j ≤ length xs → a ≤ b → b ≤ j - i → slice_range (copy_within xs i j 0) a b ≡ slice_range xs (i + a) (i + b)
moved xs i j a b low high first second =
    let n = j - i in
    let size : length (take n (drop i xs)) ≡ n = omega (arith, length-take n (drop i xs), length-drop i xs) in
    let front : take n (copy_within xs i j 0) ≡ take n (drop i xs) = take_at (take n (drop i xs)) (drop (0 + n) xs) n size in
    let same : slice_range (copy_within xs i j 0) a b ≡ slice_range (drop i xs) a b = same_front n a b (copy_within xs i j 0) (drop i xs) first second front in
    let len : b - a ≡ i + b - (i + a) = omega arith in
    same ∙ ap (λ (ys : List ℕ). take (b - a) ys) (drop-drop a i xs) ∙ ap (λ (m : ℕ). take m (drop (i + a) xs)) len

pub made : (n : ℕ) (room : List ℕ) → room ≡ replicate (n * 2) 0 → parts room n 0 0 0 ≡ record { held = []; draft = []; free = replicate n 0 }
made n room e = rw e (same_parts _ _ _ _ _ _ refl refl (ap (λ (m : ℕ). take m (replicate (n * 2) 0)) size ∙ take-replicate n (n * 2) 0 (omega arith)))
  where
    size : 0 + n - 0 ≡ n
    size = omega arith

pub extended : (room : List ℕ) (capacity start committed end n : ℕ) → IsLaidOut room capacity start committed end → n ≤ length (slice_range room end (start + capacity))
    → parts room capacity start committed (end + n) ≡ with_draft (parts room capacity start committed end) n
extended room capacity start committed end n laid within =
    let fits : end + n ≤ start + capacity = omega (arith, laid.free_in, slice_len room end (start + capacity)) in
    same_parts _ _ _ _ _ _ refl
    (sym (slice_join room committed end (end + n) laid.draft_in (omega arith)) ∙ ap (λ (ys : List ℕ). slice_range room committed end ++ ys) (slice_front room end n (start + capacity) fits))
    (slice_back room end n (start + capacity) fits)

pub dropped_draft : (room : List ℕ) (capacity start committed end : ℕ) → IsLaidOut room capacity start committed end
    → parts room capacity start committed committed ≡ settled true (parts room capacity start committed end)
dropped_draft room capacity start committed end laid =
    same_parts _ _ _ _ _ _ refl (empty_slice room committed) (sym (slice_join room committed end (start + capacity) laid.draft_in laid.free_in))

pub kept_draft : (room : List ℕ) (capacity start committed end : ℕ) → IsLaidOut room capacity start committed end
    → parts room capacity start end end ≡ settled false (parts room capacity start committed end)
kept_draft room capacity start committed end laid =
    same_parts _ _ _ _ _ _ (sym (slice_join room start committed end laid.held_in laid.draft_in)) (empty_slice room end) refl

pub released : (room : List ℕ) (capacity start committed end n : ℕ) → IsLaidOut room capacity start committed end → n ≤ length (slice_range room start committed)
    → slice_range room (start + n) committed ≡ drop n (slice_range room start committed)
released room capacity start committed end n laid within =
    slice_back room start n committed (omega (arith, laid.held_in, slice_len room start committed))

pub moved_held : (room : List ℕ) (capacity start committed end n : ℕ) → IsLaidOut room capacity start committed end → n ≤ length (slice_range room start committed)
    → slice_range (copy_within room (start + n) end 0) 0 (committed - (start + n)) ≡ drop n (slice_range room start committed)
moved_held room capacity start committed end n laid within =
    let i = start + n in
    let fits : i ≤ committed = omega (arith, laid.held_in, slice_len room start committed) in
    let last : i + (committed - i) ≡ committed = omega arith in
    let first : i + 0 ≡ i = omega arith in
    moved room i end 0 (committed - i) (omega (arith, laid.draft_in)) (omega (arith, laid.free_in, laid.window_in, laid.room_is)) (omega arith) (omega (arith, laid.draft_in))
    ∙ ap (λ (b : ℕ). slice_range room (i + 0) b) last
    ∙ ap (λ (a : ℕ). slice_range room a committed) first
    ∙ slice_back room start n committed fits

pub moved_draft : (room : List ℕ) (capacity start committed end n : ℕ) → IsLaidOut room capacity start committed end → n ≤ length (slice_range room start committed)
    → slice_range (copy_within room (start + n) end 0) (committed - (start + n)) (end - (start + n)) ≡ slice_range room committed end
moved_draft room capacity start committed end n laid within =
    let i = start + n in
    let fits : i ≤ committed = omega (arith, laid.held_in, slice_len room start committed) in
    let first : i + (committed - i) ≡ committed = omega arith in
    let last : i + (end - i) ≡ end = omega (arith, laid.draft_in) in
    moved room i end (committed - i) (end - i) (omega (arith, laid.draft_in)) (omega (arith, laid.free_in, laid.window_in, laid.room_is)) (omega (arith, laid.draft_in)) (omega arith)
    ∙ ap (λ (b : ℕ). slice_range room (i + (committed - i)) b) last
    ∙ ap (λ (a : ℕ). slice_range room a end) first

-- what is written over a front is written over a front of the front
pub written_over : (k : ℕ) (w ys : List ℕ) → take k (w ++ drop (length w) ys) ≡ take k (w ++ drop (length w) (take k ys))
written_over k w ys = elim (cases_lt (length w) k) [
  | inl lt ↦
      let j = k - length w in
      let size : length w + j ≡ k = omega arith in
      let inner : take j (drop (length w) (take k ys)) ≡ take j (drop (length w) ys) =
      ap (λ (m : ℕ). take j (drop (length w) (take m ys))) (sym size) ∙ ap (λ (zs : List ℕ). take j zs) (drop-take (length w) j ys) ∙ take-take j j (drop (length w) ys) (omega arith) in
      ap (λ (m : ℕ). take m (w ++ drop (length w) ys)) (sym size) ∙ take-append-add w (drop (length w) ys) j
      ∙ ap (λ (zs : List ℕ). w ++ zs) (sym inner)
      ∙ sym (take-append-add w (drop (length w) (take k ys)) j) ∙ ap (λ (m : ℕ). take m (w ++ drop (length w) (take k ys))) size
  | inr le ↦ take-append-le k w (drop (length w) ys) le ∙ sym (take-append-le k w (drop (length w) (take k ys)) le)
]

-- a room with w written over it from `at` on, as far as there is room
abbrev pub written : List ℕ → ℕ → ℕ → List ℕ → List ℕ
written room n at w = let all = take at room ++ (w ++ drop (length w) (drop at room)) in take n (all ++ drop (length all) room)

pub written_before : (room w : List ℕ) (n at : ℕ) → length room ≡ n → at ≤ n → take at (written room n at w) ≡ take at room
written_before room w n at size within =
    let front = take at room in
    let all = front ++ (w ++ drop (length w) (drop at room)) in
    let len : length front ≡ at = omega (arith, length-take at room) in
    take-take at n (all ++ drop (length all) room) within
    ∙ ap (λ (zs : List ℕ). take at zs) (append_assoc front (w ++ drop (length w) (drop at room)) (drop (length all) room))
    ∙ take_at front ((w ++ drop (length w) (drop at room)) ++ drop (length all) room) at len

pub written_behind : (room w : List ℕ) (n at k : ℕ) → length room ≡ n → at + k ≤ n → take k (drop at (written room n at w)) ≡ take k (w ++ drop (length w) (drop at room))
written_behind room w n at k size within =
    let front = take at room in
    let back = w ++ drop (length w) (drop at room) in
    let all = front ++ back in
    let more = drop (length all) room in
    let m = n - at in
    let whole : at + m ≡ n = omega arith in
    let len : length front ≡ at = omega (arith, length-take at room) in
    let room_behind : m ≤ length back = omega (arith, length-append w (drop (length w) (drop at room)), length-drop (length w) (drop at room), length-drop at room) in
    ap (λ (i : ℕ). take k (drop at (take i (all ++ more)))) (sym whole)
    ∙ ap (λ (zs : List ℕ). take k zs) (drop-take at m (all ++ more))
    ∙ take-take k m (drop at (all ++ more)) (omega arith)
    ∙ ap (λ (zs : List ℕ). take k (drop at zs)) (append_assoc front back more)
    ∙ ap (λ (zs : List ℕ). take k zs) (drop_at front (back ++ more) at len)
    ∙ take-append-le k back more (omega (arith, room_behind))

pub lent_free : {Z : Type 0} (v : Vec ℕ Z) (capacity start committed end : ℕ) (w : List ℕ) → IsLaidOut v.items capacity start committed end
    → parts (with_items_from v end w).items capacity start committed end ≡ with_free (parts v.items capacity start committed end) w
lent_free v capacity start committed end w laid =
    let room = v.items in
    let k = start + capacity - end in
    let size : length room ≡ v.len = sym v.ok.0 in
    let before = written_before room w v.len end size (omega (arith, laid.free_in, laid.window_in, laid.room_is)) in
    let free_len : length (slice_range room end (start + capacity)) ≡ k = slice_whole room end (start + capacity) laid.free_in (omega (arith, laid.window_in, laid.room_is)) in
    same_parts _ _ _ _ _ _
    (same_front end start committed (written room v.len end w) room laid.held_in laid.draft_in before)
    (same_front end committed end (written room v.len end w) room laid.draft_in (omega arith) before)
    (written_behind room w v.len end k size (omega (arith, laid.free_in, laid.window_in, laid.room_is)) ∙ written_over k w (drop end room)
    ∙ ap (λ (n : ℕ). take n (w ++ drop (length w) (take k (drop end room)))) (sym free_len))

-- bytes that were written over the front of the free part, told, and settled, are committed at once
pub committed_by : (old told new : Bytes) (bytes w : List ℕ) → old.draft ≡ [] → length bytes ≤ length old.free → told ≡ with_draft (with_free old w) (length bytes)
    → new ≡ settled false told → w ≡ bytes ++ drop (length bytes) old.free → new ≡ with_committed false bytes old
committed_by old told new bytes w none fits by settles is =
    let n = length bytes in
    let rest = drop n old.free in
    let size : length w ≡ length old.free = omega (arith, ap length is, length-append bytes rest, length-drop n old.free) in
    let whole : overwritten old.free w ≡ bytes ++ rest = take_at w (drop (length w) old.free) (length old.free) size ∙ is in
    let front : take n (overwritten old.free w) ≡ bytes = ap (λ (xs : List ℕ). take n xs) whole ∙ take_at bytes rest n refl in
    let back : drop n (overwritten old.free w) ≡ rest = ap (λ (xs : List ℕ). drop n xs) whole ∙ drop_at bytes rest n refl in
    let drafted : old.draft ++ take n (overwritten old.free w) ≡ bytes = ap (λ (xs : List ℕ). xs ++ take n (overwritten old.free w)) none ∙ front in
    settles ∙ ap (settled false) by ∙ same_parts _ _ _ _ _ _ (ap (λ (xs : List ℕ). old.held ++ xs) drafted) (sym none) back
