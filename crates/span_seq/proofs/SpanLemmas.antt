-- Spans, and the parts of them.
use Rattle.std.proofs.Common.{◌≡◌, ◌↔◌, ◌+◌, ◌-◌, ◌<◌, ◌≤◌, ℕ, zero, suc, List, [], ◌∷◌, ◌++◌, length, take, drop, get_or, filter, arith, refl, sym, ap, ◌∙◌, inl, inr, min, zero-add, length-append, length-drop, length-take}
use Rattle.std.specs.Prelude.{slice_range}
use Rattle.std.specs.List.{All, AllByRecursion, concat, sum_by}
use Rattle.std.proofs.Math.Nat.{zero-sub}
use Rattle.std.proofs.Math.Seq.{take-nil, take-append-add, drop-append-add}
use Rattle.std.proofs.lemmas.Bool.{lt-ltb, cases_lt}
use Rattle.std.proofs.lemmas.List.{take_min, take_rest, drop-drop, drop-take, take-take, get_or_past, take_all, drop_all, drop_more, take-append-drop, take-append-le, drop-append-le, take_at, drop_at, append_assoc, append_cancel_left, nil_from_length, append-nil}
use Rattle.std.proofs.lemmas.List.Concat.{concat_is, length-flat_map}
use Rattle.std.proofs.lemmas.List.Elements.{All-from_recursion}
use Rattle.std.proofs.lemmas.List.Folds.{concat-append}
use Rattle.std.proofs.lemmas.List.Sums.{sum_by_more, sum_by_more_le}
use Rattle.span_seq.specs.Spans.{IsAtByte, Part, bytes_of, has_bytes, keep, skip, size_of, spans_of, place_of}

-- ---- how many bytes there are

size_is : (spans : List (List ℕ)) → size_of spans ≡ sum_by length spans
size_is spans = ap length (concat_is spans) ∙ length-flat_map (λ (x : List ℕ). x) spans

pub size_more : (spans : List (List ℕ)) (i : ℕ) → i < length spans → size_of (take (i + 1) spans) ≡ size_of (take i spans) + length (get_or spans i [])
size_more spans i lt =
    size_is (take (i + 1) spans) ∙ sum_by_more length spans i [] lt ∙ ap (λ n. n + length (get_or spans i [])) (sym (size_is (take i spans)))

pub size_more_le : (spans : List (List ℕ)) (i : ℕ) → i < length spans → size_of (take i spans) + length (get_or spans i []) ≤ size_of spans
size_more_le spans i lt = rw (size_is (take i spans), size_is spans) (sum_by_more_le length spans i [] lt)

pub size_all : (spans : List (List ℕ)) (i : ℕ) → length spans ≤ i → size_of (take i spans) ≡ size_of spans
size_all spans i le = ap size_of (take_all i spans le)

-- ---- lists in lists

pub take-append : (n : ℕ) (x y : List ℕ) → take n (x ++ y) ≡ take n x ++ take (n - length x) y
take-append n x y =
    elim (cases_lt n (length x)) [
      | inl lt ↦
          let le : n ≤ length x = omega arith in
          let none : n - length x ≡ 0 = omega arith in
          take-append-le n x y le ∙ sym (rw none (append-nil (take n x)))
      | inr ge ↦
          let whole : length x + (n - length x) ≡ n = omega arith in
          ap (λ m. take m (x ++ y)) (sym whole) ∙ take-append-add x y (n - length x) ∙ ap (λ l. l ++ take (n - length x) y) (sym (take_all n x ge))
    ]

pub drop-append : (n : ℕ) (x y : List ℕ) → drop n (x ++ y) ≡ drop n x ++ drop (n - length x) y
drop-append n x y =
    elim (cases_lt n (length x)) [
      | inl lt ↦
          let le : n ≤ length x = omega arith in
          let none : n - length x ≡ 0 = omega arith in
          drop-append-le n x y le ∙ sym (rw none refl)
      | inr ge ↦
          let whole : length x + (n - length x) ≡ n = omega arith in
          ap (λ m. drop m (x ++ y)) (sym whole) ∙ drop-append-add x y (n - length x) ∙ ap (λ l. l ++ drop (n - length x) y) (sym (drop_all n x ge))
    ]

pub concat-keep : (n : ℕ) (spans : List (List ℕ)) → concat (keep n spans) ≡ take n (concat spans)
concat-keep n [] = sym (take-nil n)
concat-keep n (x ∷ xs) = ap (λ l. take n x ++ l) (concat-keep (n - length x) xs) ∙ sym (take-append n x (concat xs))

pub concat-skip : (n : ℕ) (spans : List (List ℕ)) → concat (skip n spans) ≡ drop n (concat spans)
concat-skip n [] = sym (drop_all n [] (omega arith))
concat-skip n (x ∷ xs) = ap (λ l. drop n x ++ l) (concat-skip (n - length x) xs) ∙ sym (drop-append n x (concat xs))

pub filter_some : (x : List ℕ) (xs : List (List ℕ)) → 0 < length x → filter has_bytes (x ∷ xs) ≡ x ∷ filter has_bytes xs
filter_some x xs lt = rw (lt-ltb 0 (length x) lt) refl

pub filter_none : (x : List ℕ) (xs : List (List ℕ)) → length x ≡ 0 → filter has_bytes (x ∷ xs) ≡ filter has_bytes xs
filter_none x xs e = rw (nil_from_length x e) refl

pub concat-filter : (spans : List (List ℕ)) → concat (filter has_bytes spans) ≡ concat spans
concat-filter [] = refl
concat-filter (x ∷ xs) =
    elim (cases_lt 0 (length x)) [
      | inl lt ↦ ap concat (filter_some x xs lt) ∙ ap (λ l. x ++ l) (concat-filter xs)
      | inr ge ↦
          let none : x ≡ [] = nil_from_length x (omega arith) in
          ap concat (filter_none x xs (omega arith)) ∙ concat-filter xs ∙ ap (λ l. l ++ concat xs) (sym none)
    ]

-- what a part has of the spans is its bytes
pub spans_are_bytes : (p : Part) → concat (spans_of p) ≡ bytes_of p
spans_are_bytes p =
    concat-filter (keep (p.to - p.from) (skip p.from p.spans)) ∙ concat-keep (p.to - p.from) (skip p.from p.spans)
    ∙ ap (take (p.to - p.from)) (concat-skip p.from p.spans)

pub skip_nothing : (spans : List (List ℕ)) → skip 0 spans ≡ spans
skip_nothing [] = refl
skip_nothing (x ∷ xs) = rw (zero-sub (length x)) (ap (λ l. x ∷ l) (skip_nothing xs))

pub keep_nothing : (spans : List (List ℕ)) → filter has_bytes (keep 0 spans) ≡ []
keep_nothing [] = refl
keep_nothing (x ∷ xs) = rw (zero-sub (length x)) (keep_nothing xs)

-- ---- from a place on

-- the bytes from a place on are those of its span, and of the spans behind it
pub drop_place : (spans : List (List ℕ)) (i k : ℕ) → drop (place_of spans i k) (concat spans) ≡ drop k (concat (drop i spans))
drop_place spans i k =
    let front = concat (take i spans) in
    let behind = concat (drop i spans) in
    let split : concat spans ≡ front ++ behind = ap concat (sym (take-append-drop i spans)) ∙ concat-append (take i spans) (drop i spans) in
    ap (drop (place_of spans i k)) split ∙ drop-append-add front behind k

-- so are the spans
pub skip_place : (spans : List (List ℕ)) (i k n : ℕ) → filter has_bytes (keep n (skip (place_of spans i k) spans)) ≡ filter has_bytes (keep n (skip k (drop i spans)))
skip_place spans zero k n = rw (zero-add k) refl
skip_place [] (suc i) k n = refl
skip_place (x ∷ xs) (suc i) k n =
    let place = place_of (x ∷ xs) (suc i) k in
    let whole : place ≡ length x + place_of xs i k = omega (arith, length-append x (concat (take i xs))) in
    let passed : length (drop place x) ≡ 0 = omega (arith, length-drop place x) in
    let same : n - length (drop place x) ≡ n = omega arith in
    let later : place - length x ≡ place_of xs i k = omega arith in
    filter_none (take n (drop place x)) (keep (n - length (drop place x)) (skip (place - length x) xs)) (omega (arith, length-take n (drop place x)))
    ∙ ap (λ m. filter has_bytes (keep m (skip (place - length x) xs))) same
    ∙ ap (λ m. filter has_bytes (keep n (skip m xs))) later
    ∙ skip_place xs i k n

-- what n bytes from a place on have of the spans
abbrev pub spans_at : List (List ℕ) → ℕ → ℕ → List (List ℕ)
spans_at spans from n = filter has_bytes (keep n (skip from spans))

-- the first n bytes of the span at i, behind k bytes of it
abbrev pub first_at : List (List ℕ) → ℕ → ℕ → ℕ → List ℕ
first_at spans i k n = take n (drop k (get_or spans i []))

spans_at_index : (spans : List (List ℕ)) (i k n : ℕ) → i < length spans → k ≤ length (get_or spans i [])
    → spans_at spans (place_of spans i k) n ≡ filter has_bytes (first_at spans i k n ∷ keep (n - (length (get_or spans i []) - k)) (drop (i + 1) spans))
spans_at_index spans i k n lt le =
    let span = get_or spans i [] in
    let behind = drop (i + 1) spans in
    let none : k - length span ≡ 0 = omega arith in
    skip_place spans i k n
    ∙ ap (λ l. filter has_bytes (keep n (skip k l))) (drop_more spans i [] lt)
    ∙ ap (λ l. filter has_bytes (keep n (drop k span ∷ l))) (ap (λ m. skip m behind) none ∙ skip_nothing behind)
    ∙ ap (λ m. filter has_bytes (take n (drop k span) ∷ keep (n - m) behind)) (length-drop k span)

pub length-first_at : (spans : List (List ℕ)) (i k n : ℕ) → length (first_at spans i k n) ≡ min n (length (get_or spans i []) - k)
length-first_at spans i k n = length-take n (drop k (get_or spans i [])) ∙ ap (min n) (length-drop k (get_or spans i []))

-- the spans of n bytes from a place on are what its own span has of them, and the spans of those behind
pub split_spans : (spans : List (List ℕ)) (i k n : ℕ) → i < length spans → k < length (get_or spans i []) → 0 < n
    → spans_at spans (place_of spans i k) n
    ≡ first_at spans i k n ∷ spans_at spans (place_of spans i k + length (first_at spans i k n)) (n - length (first_at spans i k n))
split_spans spans i k n lt within some =
    let span = get_or spans i [] in
    let first = first_at spans i k n in
    let behind = drop (i + 1) spans in
    let len = length-first_at spans i k n in
    let tail : filter has_bytes (keep (n - (length span - k)) behind) ≡ spans_at spans (place_of spans i k + length first) (n - length first) =
    elim (cases_lt (length span - k) n) [
      | inl longer ↦
          let next : place_of spans i k + length first ≡ place_of spans (i + 1) 0 = omega (arith, size_more spans i lt) in
          let rest : n - length first ≡ n - (length span - k) = omega arith in
          rw (next, rest) (sym (skip_place spans (i + 1) 0 (n - (length span - k)) ∙ ap (λ l. filter has_bytes (keep (n - (length span - k)) l)) (skip_nothing behind)))
      | inr shorter ↦
          let none : n - (length span - k) ≡ 0 = omega arith in
          let done : n - length first ≡ 0 = omega arith in
          rw (none, done) (keep_nothing behind ∙ sym (keep_nothing (skip (place_of spans i k + length first) spans)))
    ] in
    spans_at_index spans i k n lt (omega arith) ∙ filter_some first (keep (n - (length span - k)) behind) (omega arith) ∙ ap (λ l. first ∷ l) tail

-- ---- steps over spans

-- a place that lies ahead of the bytes of its span lies in another span than the first
pub not_at_first : (spans : List (List ℕ)) (i k : ℕ) → k < place_of spans i k → 0 < i
not_at_first spans zero k lt = absurd (omega arith)
not_at_first spans (suc i) k lt = omega arith

pub size_before : (spans : List (List ℕ)) (i : ℕ) → 0 < i → i ≤ length spans → size_of (take i spans) ≡ size_of (take (i - 1) spans) + length (get_or spans (i - 1) [])
size_before spans i some le =
    let next : i - 1 + 1 ≡ i = omega arith in
    ap (λ n. size_of (take n spans)) (sym next) ∙ size_more spans (i - 1) (omega arith)

pub index_in : (spans : List (List ℕ)) (i k : ℕ) → k < length (get_or spans i []) → i < length spans
index_in spans i k lt =
    elim (cases_lt i (length spans)) [
      | inl in_range ↦ in_range
      | inr past ↦ absurd (omega (arith, ap length (get_or_past spans i [] past)))
    ]

-- ---- bytes within bytes

-- a range of a list within a longer range of it
pub range_within : (xs : List ℕ) (from to a b : ℕ) → from ≤ a → a ≤ b → b ≤ to → slice_range xs a b ≡ slice_range (slice_range xs from to) (a - from) (b - from)
range_within xs from to a b low ordered high =
    let n = a - from in
    let whole : to - from ≡ n + (to - a) = omega arith in
    let len : b - from - n ≡ b - a = omega arith in
    let place : from + n ≡ a = omega arith in
    let less : b - a ≤ to - a = omega arith in
    sym (
    ap (λ m. take (b - from - n) (drop n (take m (drop from xs)))) whole
    ∙ ap (take (b - from - n)) (drop-take n (to - a) (drop from xs) ∙ ap (take (to - a)) (drop-drop n from xs ∙ ap (λ m. drop m xs) place))
    ∙ ap (λ m. take m (take (to - a) (drop a xs))) len
    ∙ take-take (b - a) (to - a) (drop a xs) less
    )

-- the rest of a range
pub range_behind : (xs : List ℕ) (from to a : ℕ) → from ≤ a → a ≤ to → slice_range xs a to ≡ drop (a - from) (slice_range xs from to)
range_behind xs from to a low high =
    let n = a - from in
    let whole : to - from ≡ n + (to - a) = omega arith in
    let place : from + n ≡ a = omega arith in
    sym (
    ap (λ m. drop n (take m (drop from xs))) whole
    ∙ drop-take n (to - a) (drop from xs)
    ∙ ap (take (to - a)) (drop-drop n from xs ∙ ap (λ m. drop m xs) place)
    )

-- ---- the part of n bytes from a place on

abbrev pub part_at : List (List ℕ) → ℕ → ℕ → Part
part_at spans from n = record { spans = spans; from = from; to = from + n }

pub spans_of_part : (spans : List (List ℕ)) (from n : ℕ) → spans_of (part_at spans from n) ≡ spans_at spans from n
spans_of_part spans from n =
    let len : from + n - from ≡ n = omega arith in
    ap (λ m. filter has_bytes (keep m (skip from spans))) len

pub nothing_of_part : (spans : List (List ℕ)) (from n : ℕ) → n ≡ 0 → spans_of (part_at spans from n) ≡ []
nothing_of_part spans from n none = spans_of_part spans from n ∙ ap (spans_at spans from) none ∙ keep_nothing (skip from spans)

pub length-part : (spans : List (List ℕ)) (from n : ℕ) → from + n ≤ size_of spans → length (bytes_of (part_at spans from n)) ≡ n
length-part spans from n within = omega (arith, length-take (from + n - from) (drop from (concat spans)), length-drop from (concat spans))

pub split_part : (spans : List (List ℕ)) (from n i k : ℕ) → IsAtByte spans from i k → 0 < n
    → let first = first_at spans i k n in spans_of (part_at spans from n) ≡ first ∷ spans_of (part_at spans (from + length first) (n - length first))
split_part spans from n i k at some =
    let first = first_at spans i k n in
    spans_of_part spans from n
    ∙ ap (λ place. spans_at spans place n) (sym at.found)
    ∙ split_spans spans i k n at.index_within at.skip_within some
    ∙ ap (λ place. first ∷ spans_at spans (place + length first) (n - length first)) at.found
    ∙ ap (λ l. first ∷ l) (sym (spans_of_part spans (from + length first) (n - length first)))

pub head_of_part : (spans : List (List ℕ)) (from n i k : ℕ) → IsAtByte spans from i k → 0 < n → get_or (spans_of (part_at spans from n)) 0 [] ≡ first_at spans i k n
head_of_part spans from n i k at some = ap (λ l. get_or l 0 []) (split_part spans from n i k at some)

pub front_of_part : (spans : List (List ℕ)) (from n i k : ℕ) → IsAtByte spans from i k → 0 < n
    → let first = first_at spans i k n in bytes_of (part_at spans from n) ≡ first ++ bytes_of (part_at spans (from + length first) (n - length first))
front_of_part spans from n i k at some =
    let first = first_at spans i k n in
    sym (spans_are_bytes (part_at spans from n)) ∙ ap concat (split_part spans from n i k at some)
    ∙ ap (λ l. first ++ l) (spans_are_bytes (part_at spans (from + length first) (n - length first)))

pub behind_of_part : (spans : List (List ℕ)) (from n a : ℕ) → a ≤ n → bytes_of (part_at spans (from + a) (n - a)) ≡ drop a (bytes_of (part_at spans from n))
behind_of_part spans from n a within =
    let end : from + a + (n - a) ≡ from + n = omega arith in
    let len : from + a - from ≡ a = omega arith in
    ap (λ m. slice_range (concat spans) (from + a) m) end
    ∙ range_behind (concat spans) from (from + n) (from + a) (omega arith) (omega arith)
    ∙ ap (λ m. drop m (bytes_of (part_at spans from n))) len

pub length-first : (spans : List (List ℕ)) (from n i k : ℕ) → IsAtByte spans from i k → 0 < n → (0 < length (first_at spans i k n)) × (length (first_at spans i k n) ≤ n)
length-first spans from n i k at some = let len = length-first_at spans i k n in let within = at.skip_within in (omega arith, omega arith)

-- at most one span has bytes of a part exactly where its first one has them all
pub single : (spans : List (List ℕ)) (from n i k : ℕ) → IsAtByte spans from i k → 0 < n → from + n ≤ size_of spans
    → (length (first_at spans i k n) ≡ n) ↔ (length (spans_of (part_at spans from n)) ≤ 1)
single spans from n i k at some within =
    let first = first_at spans i k n in
    let rest = part_at spans (from + length first) (n - length first) in
    let split = split_part spans from n i k at some in
    let len = length-first spans from n i k at some in (
      λ e. omega (arith, ap length split, ap length (nothing_of_part spans (from + length first) (n - length first) (omega arith))),
      λ few.
          let none : spans_of rest ≡ [] = nil_from_length (spans_of rest) (omega (arith, ap length split)) in
          let no_bytes : length (bytes_of rest) ≡ 0 = ap length (sym (spans_are_bytes rest) ∙ ap concat none) in
          omega (arith, length-part spans (from + length first) (n - length first) (omega (arith, len.1))),
    )

-- the code's first span, cut to the length of the sequence
pub cut_first : (span : List ℕ) (k n m : ℕ) → m ≡ min (length (take (length span - k) (drop k span))) n → take m (take (length span - k) (drop k span)) ≡ take n (drop k span)
cut_first span k n m e =
    let rest = take_rest span k in
    let least : m ≡ min n (length (drop k span)) = e ∙ ap (λ l. min (length l) n) rest ∙ omega arith in
    ap (take m) rest ∙ ap (λ j. take j (drop k span)) least ∙ take_min n (drop k span)

pub front_taken : (x f b r : List ℕ) → x ≡ f → b ≡ f ++ r → take (length x) b ≡ x
front_taken x f b r same split = ap (λ l. take (length l) b) same ∙ ap (take (length f)) split ∙ take_at f r (length f) refl ∙ sym same

pub split_at_head : (spans : List (List ℕ)) (from n i k : ℕ) (first : List ℕ) → IsAtByte spans from i k → 0 < n → first ≡ get_or (spans_of (part_at spans from n)) 0 []
    → spans_of (part_at spans from n) ≡ first ∷ spans_of (record { spans = spans; from = from + length first; to = from + n })
split_at_head spans from n i k first at some is =
    let f = first_at spans i k n in
    let same : first ≡ f = is ∙ head_of_part spans from n i k at some in
    let len = length-first spans from n i k at some in
    let end : from + length f + (n - length f) ≡ from + n = omega arith in
    split_part spans from n i k at some
    ∙ ap (λ t. f ∷ spans_of (record { spans = spans; from = from + length f; to = t })) end
    ∙ ap (λ l. l ∷ spans_of (record { spans = spans; from = from + length l; to = from + n })) (sym same)

pub single_test : (spans : List (List ℕ)) (from n i k : ℕ) (first : List ℕ) → (0 < n → IsAtByte spans from i k) → from + n ≤ size_of spans → first ≡ get_or (spans_of (part_at spans from n)) 0 []
    → (length first ≡ n) ↔ (length (spans_of (part_at spans from n)) ≤ 1)
single_test spans from n i k first at within is =
    elim (cases_lt 0 n) [
      | inl some ↦
          let same = ap length (is ∙ head_of_part spans from n i k (at some) some) in
          let both = single spans from n i k (at some) some within in
          (λ e. both.0 (sym same ∙ e), λ few. same ∙ both.1 few)
      | inr none ↦
          let nothing = nothing_of_part spans from n (omega arith) in
          let empty = ap length (is ∙ ap (λ l. get_or l 0 []) nothing) in
          (λ e. omega (arith, ap length nothing), λ few. omega arith)
    ]

pub length_parts : (x y z w : List ℕ) → w ≡ x ++ (y ++ z) → length w ≡ length x + (length y + length z)
length_parts x y z w e = ap length e ∙ length-append x (y ++ z) ∙ ap (λ n. length x + n) (length-append y z)

-- a comparison, a span further
pub compare_more : (first rest left : List ℕ) (n : ℕ) → n ≡ min (length first) (length left) → take n first ≡ take n left
    → (take (length left) (first ++ rest) ≡ left) ↔ (take (length (drop n left)) rest ≡ drop n left)
compare_more first rest left n e same =
    elim (cases_lt (length left) (length first)) [
      | inl shorter ↦
          let all : n ≡ length left = omega arith in
          let none : drop n left ≡ [] = drop_all n left (omega arith) in
          let le : length left ≤ length first = omega arith in (
            λ _. rw none refl,
            λ _. take-append-le (length left) first rest le ∙ ap (λ m. take m first) (sym all) ∙ same ∙ take_all n left (omega arith),
          )
      | inr longer ↦
          let all : n ≡ length first = omega arith in
          let front : first ≡ take n left = sym (take_all n first (omega arith)) ∙ same in
          let split : left ≡ first ++ drop n left = sym (take-append-drop n left) ∙ ap (λ l. l ++ drop n left) (sym front) in
          let len : length left ≡ length first + length (drop n left) = ap length split ∙ length-append first (drop n left) in
          let taken : take (length left) (first ++ rest) ≡ first ++ take (length (drop n left)) rest =
          ap (λ m. take m (first ++ rest)) len ∙ take-append-add first rest (length (drop n left)) in (
            λ is. append_cancel_left first (take (length (drop n left)) rest) (drop n left) (sym taken ∙ is ∙ split),
            λ is. taken ∙ ap (λ l. first ++ l) is ∙ sym split,
          )
    ]

-- what doesn't compare within the first span doesn't compare
pub compare_fails : (first rest left : List ℕ) (n : ℕ) → n ≡ min (length first) (length left) → take (length left) (first ++ rest) ≡ left → take n first ≡ take n left
compare_fails first rest left n e is =
    let short : n ≤ length first = omega arith in
    let less : n ≤ length left = omega arith in
    sym (take-append-le n first rest short) ∙ sym (take-take n (length left) (first ++ rest) less) ∙ ap (take n) is

-- a copy, a span further
pub copied_more : (before first old out new : List ℕ) (done k : ℕ) → done ≡ length before → k ≡ length first → out ≡ before ++ drop (length before) old → new ≡ first
    → take done out ++ (new ++ drop k (drop done out)) ≡ (before ++ first) ++ drop (length (before ++ first)) old
copied_more before first old out new done k counted len copied same =
    let rest = drop (length before) old in
    let front : take done out ≡ before = ap (take done) copied ∙ take_at before rest done (sym counted) in
    let back : drop done out ≡ rest = ap (drop done) copied ∙ drop_at before rest done (sym counted) in
    let place : length before + k ≡ length (before ++ first) = omega (arith, length-append before first) in
    ap (λ l. l ++ (new ++ drop k (drop done out))) front
    ∙ ap (λ l. before ++ (l ++ drop k (drop done out))) same
    ∙ ap (λ l. before ++ (first ++ drop k l)) back
    ∙ ap (λ l. before ++ (first ++ l)) (drop-drop k (length before) old ∙ ap (λ m. drop m old) place)
    ∙ sym (append_assoc before first (drop (length (before ++ first)) old))

pub compare_step : (W : Type 0) (here first rest left later : List ℕ) (n : ℕ) → n ≡ min (length first) (length left) → take n first ≡ take n left
    → here ≡ first ++ rest → later ≡ drop n left → (W ↔ (take (length left) here ≡ left)) → W ↔ (take (length later) rest ≡ later)
compare_step W here first rest left later n e same split behind i =
    let more = compare_more first rest left n e same in (
      λ w. ap (λ l. take (length l) rest) behind ∙ more.0 (ap (take (length left)) (sym split) ∙ i.0 w) ∙ sym behind,
      λ h. i.1 (ap (take (length left)) split ∙ more.1 (ap (λ l. take (length l) rest) (sym behind) ∙ h ∙ behind)),
    )

-- ---- no span of a part is empty

filled_by_recursion : (spans : List (List ℕ)) → AllByRecursion (λ span. 0 < length span) (filter has_bytes spans)
filled_by_recursion [] = tt
filled_by_recursion (x ∷ xs) =
    elim (cases_lt 0 (length x)) [
      | inl some ↦ rw (filter_some x xs some) (some, filled_by_recursion xs)
      | inr none ↦ rw (filter_none x xs (omega arith)) (filled_by_recursion xs)
    ]

pub spans_are_filled : (p : Part) → All (λ span. 0 < length span) (spans_of p)
spans_are_filled p = All-from_recursion (λ span. 0 < length span) (spans_of p) (filled_by_recursion (keep (p.to - p.from) (skip p.from p.spans)))

-- what was passed, the first span of the rest, and what stands behind it
pub split_at_front : (before first rest whole : List ℕ) → whole ≡ before ++ rest → take (length first) rest ≡ first → whole ≡ before ++ (first ++ drop (length first) rest)
split_at_front before first rest whole parts front =
    parts ∙ ap (λ l. before ++ l) (sym (take-append-drop (length first) rest) ∙ ap (λ l. l ++ drop (length first) rest) front)
