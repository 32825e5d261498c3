-- Runs that are cut, joined and put behind others.
use Rattle.std.proofs.Common.{eqb-true, ◌≡◌, ◌<◌, ◌≤◌, ◌+◌, ◌-◌, ℕ, suc, Bool, true, false, List, [], ◌∷◌, ◌++◌, length, drop, refl, sym, ap, ◌∙◌, arith, inl, inr, append_assoc}
use Rattle.std.specs.List.{filter}
use Rattle.std.specs.Prelude.{map, nat_lt, not, ◌==◌, IsNone, is_none, if◌then◌else◌}
use Rattle.std.proofs.lemmas.Bool.{cases_lt, cases_Bool, lt-ltb, le-ltb}
use Rattle.std.proofs.lemmas.List.{drop-append-le, drop-drop, drop_at, length-append, length-drop, append-nil}
use Rattle.std.proofs.lemmas.Grind.{flat_map-append}
use Rattle.pipe_core.specs.History.{Run, Call, Commit, Advance, bytes_of, reader_end}
use Rattle.pipe_core.specs.Progress.{committed_runs, consumed, total}
use Rattle.pipe_core.specs.Lends.{drop_bytes, onto_runs, joined, lent_runs}
use Rattle.pipe_core.proofs.RunLemmas.{runs_held}
use Rattle.pipe_state.specs.Lying.{Lies, AreFull, extended}

abbrev len : List Run → ℕ
len runs = length (bytes_of runs)

-- ---- cut twice
drop_twice : (a b : ℕ) (rs : List Run) → drop_bytes a (drop_bytes b rs) ≡ drop_bytes (b + a) rs
drop_twice a b [] = refl
drop_twice a b (r ∷ rs) = elim (cases_lt b (length r.bytes)) [
  | inl low ↦ rw (lt-ltb b (length r.bytes) low) (
      let left : length (drop b r.bytes) ≡ length r.bytes - b = length-drop b r.bytes in
      elim (cases_lt (b + a) (length r.bytes)) [
        | inl lt ↦ rw (lt-ltb (b + a) (length r.bytes) lt, lt-ltb a (length (drop b r.bytes)) (omega arith)) (
            ap (λ bytes. record r { bytes = bytes } ∷ rs) (drop-drop a b r.bytes))
        | inr le ↦ rw (le-ltb (b + a) (length r.bytes) le, le-ltb a (length (drop b r.bytes)) (omega arith)) (
            ap (λ k. drop_bytes k rs) (omega arith))
      ])
  | inr high ↦ rw (le-ltb b (length r.bytes) high, le-ltb (b + a) (length r.bytes) (omega arith)) (
      drop_twice a (b - length r.bytes) rs ∙ ap (λ k. drop_bytes k rs) (omega arith))
]

-- ---- cut and joined
-- a run put before others, cut within it or behind it
cut_onto : (r : Run) (n : ℕ) (rs : List Run) → n < length r.bytes → drop_bytes n (onto_runs r rs) ≡ onto_runs (record r { bytes = drop n r.bytes }) rs
cut_onto r n [] low = rw (lt-ltb n (length r.bytes) low) refl
cut_onto r n (s ∷ rs) low = elim (cases_Bool (r.segment == s.segment)) [
  | inl same ↦ rw same (
      let both : length (r.bytes ++ s.bytes) ≡ length r.bytes + length s.bytes = length-append r.bytes s.bytes in
      rw (lt-ltb n (length (r.bytes ++ s.bytes)) (omega arith)) (ap (λ bytes. record r { bytes = bytes } ∷ rs) (drop-append-le n r.bytes s.bytes (omega arith))))
  | inr other ↦ rw other (rw (lt-ltb n (length r.bytes) low) refl)
]

drop_past : (n : ℕ) (x y : List ℕ) → length x ≤ n → drop n (x ++ y) ≡ drop (n - length x) y
drop_past n x y le =
    let m = n - length x in
    let back : drop n (x ++ y) ≡ drop m (drop (length x) (x ++ y)) = ap (λ k. drop k (x ++ y)) (omega arith) ∙ sym (drop-drop m (length x) (x ++ y)) in
    back ∙ ap (λ (t : List ℕ). drop m t) (drop_at x y (length x) refl)

skip_onto : (r : Run) (n : ℕ) (rs : List Run) → length r.bytes ≤ n → drop_bytes n (onto_runs r rs) ≡ drop_bytes (n - length r.bytes) rs
skip_onto r n [] high = rw (le-ltb n (length r.bytes) high) refl
skip_onto r n (s ∷ rs) high = elim (cases_Bool (r.segment == s.segment)) [
  | inl same ↦ rw same (
      let both : length (r.bytes ++ s.bytes) ≡ length r.bytes + length s.bytes = length-append r.bytes s.bytes in
      elim (cases_lt (n - length r.bytes) (length s.bytes)) [
        | inl lt ↦ rw (lt-ltb n (length (r.bytes ++ s.bytes)) (omega arith), lt-ltb (n - length r.bytes) (length s.bytes) lt) (
            ap (λ bytes. record r { bytes = bytes } ∷ rs) (drop_past n r.bytes s.bytes high)
            ∙ ap (λ segment. record { segment = segment; bytes = drop (n - length r.bytes) s.bytes } ∷ rs) (eqb-true r.segment s.segment same))
        | inr le ↦ rw (le-ltb n (length (r.bytes ++ s.bytes)) (omega arith), le-ltb (n - length r.bytes) (length s.bytes) le) (
            ap (λ k. drop_bytes k rs) (omega arith))
      ])
  | inr other ↦ rw other (rw (le-ltb n (length r.bytes) high) refl)
]

joined_cut : (n : ℕ) (rs : List Run) → joined (drop_bytes n rs) ≡ drop_bytes n (joined rs)
joined_cut n [] = refl
joined_cut n (r ∷ rs) = elim (cases_lt n (length r.bytes)) [
  | inl low ↦ rw (lt-ltb n (length r.bytes) low) (sym (cut_onto r n (joined rs) low))
  | inr high ↦ rw (le-ltb n (length r.bytes) high) (joined_cut (n - length r.bytes) rs ∙ sym (skip_onto r n (joined rs) high))
]

-- ---- joined once more
onto_twice : (r s : Run) (rs : List Run) → (r.segment == s.segment) ≡ true → onto_runs (record r { bytes = r.bytes ++ s.bytes }) rs ≡ onto_runs r (onto_runs s rs)
onto_twice r s [] same = rw same refl
onto_twice r s (t ∷ rs) same =
    let e : r.segment ≡ s.segment = eqb-true r.segment s.segment same in
    elim (cases_Bool (s.segment == t.segment)) [
      | inl join ↦ let join' : (r.segment == t.segment) ≡ true = ap (λ k. k == t.segment) e ∙ join in
          rw join (rw join' (rw same (ap (λ bytes. record r { bytes = bytes } ∷ rs) (append_assoc r.bytes s.bytes t.bytes))))
      | inr other ↦ let other' : (r.segment == t.segment) ≡ false = ap (λ k. k == t.segment) e ∙ other in
          rw other (rw other' (rw same refl))
    ]

joined_onto : (r : Run) (xs bs : List Run) → joined (onto_runs r xs ++ bs) ≡ onto_runs r (joined (xs ++ bs))
joined_onto r [] bs = refl
joined_onto r (s ∷ xs) bs = elim (cases_Bool (r.segment == s.segment)) [
  | inl same ↦ rw same (onto_twice r s (joined (xs ++ bs)) same)
  | inr other ↦ rw other refl
]

pub joined_front : (xs bs : List Run) → joined (joined xs ++ bs) ≡ joined (xs ++ bs)
joined_front [] bs = refl
joined_front (r ∷ xs) bs = joined_onto r (joined xs) bs ∙ ap (onto_runs r) (joined_front xs bs)

-- ---- cut where more stands behind
cut_none : (rs : List Run) → AreFull rs → drop_bytes 0 rs ≡ rs
cut_none [] full = refl
cut_none (r ∷ rs) full = rw (lt-ltb 0 (length r.bytes) full.0) refl

cut_front : (n : ℕ) (xs bs : List Run) → n ≤ len xs → AreFull bs → drop_bytes n (xs ++ bs) ≡ drop_bytes n xs ++ bs
cut_front n [] bs within full = ap (λ k. drop_bytes k bs) (omega arith) ∙ cut_none bs full
cut_front n (r ∷ xs) bs within full = elim (cases_lt n (length r.bytes)) [
  | inl low ↦ rw (lt-ltb n (length r.bytes) low) refl
  | inr high ↦ rw (le-ltb n (length r.bytes) high) (
      let both : length (bytes_of (r ∷ xs)) ≡ length r.bytes + len xs = length-append r.bytes (bytes_of xs) in
      cut_front (n - length r.bytes) xs bs (omega arith) full)
]

-- ---- the laws
-- what is lent and what was consumed are all that is committed
lent_len : (h : List Call) → len (lent_runs h) ≡ length (total h) - consumed h
lent_len h = ap length (runs_held h) ∙ length-drop (consumed h) (total h)

pub cut_len : (n : ℕ) (rs : List Run) → len (drop_bytes n rs) ≡ len rs - n
cut_len n [] = omega arith
cut_len n (r ∷ rs) =
    let both : length (bytes_of (r ∷ rs)) ≡ length r.bytes + len rs = length-append r.bytes (bytes_of rs) in
    elim (cases_lt n (length r.bytes)) [
      | inl low ↦ rw (lt-ltb n (length r.bytes) low) (
          let cut : length (drop n r.bytes ++ bytes_of rs) ≡ length (drop n r.bytes) + len rs = length-append (drop n r.bytes) (bytes_of rs) in
          let one : length (drop n r.bytes) ≡ length r.bytes - n = length-drop n r.bytes in omega arith)
      | inr high ↦ rw (le-ltb n (length r.bytes) high) (let rest = cut_len (n - length r.bytes) rs in omega arith)
    ]

onto_bytes : (r : Run) (rs : List Run) → bytes_of (onto_runs r rs) ≡ r.bytes ++ bytes_of rs
onto_bytes r [] = refl
onto_bytes r (s ∷ rs) = elim (cases_Bool (r.segment == s.segment)) [
  | inl same ↦ rw same (append_assoc r.bytes s.bytes (bytes_of rs))
  | inr other ↦ rw other refl
]

pub joined_bytes : (rs : List Run) → bytes_of (joined rs) ≡ bytes_of rs
joined_bytes [] = refl
joined_bytes (r ∷ rs) = onto_bytes r (joined rs) ∙ ap (λ (t : List ℕ). r.bytes ++ t) (joined_bytes rs)

kept_if : (b : Bool) (runs : List Run) → b ≡ true → (if b then runs else []) ≡ runs
kept_if true runs e = refl
kept_if false runs e = cc (e)

onto_full : (r : Run) (rs : List Run) → 0 < length r.bytes → AreFull rs → AreFull (onto_runs r rs)
onto_full r [] some full = (some, tt)
onto_full r (s ∷ rs) some full = elim (cases_Bool (r.segment == s.segment)) [
  | inl same ↦ let both : length (r.bytes ++ s.bytes) ≡ length r.bytes + length s.bytes = length-append r.bytes s.bytes in rw same (omega arith, full.1)
  | inr other ↦ rw other (some, full)
]

joined_full : (rs : List Run) → AreFull rs → AreFull (joined rs)
joined_full [] full = tt
joined_full (r ∷ rs) full = onto_full r (joined rs) full.0 (joined_full rs full.1)

pub both_full : (xs ys : List Run) → AreFull xs → AreFull ys → AreFull (xs ++ ys)
both_full [] ys full full' = full'
both_full (x ∷ xs) ys full full' = (full.0, both_full xs ys full.1 full')

pub commits : (h : List Call) (runs live : List Run) (skip : ℕ) → IsNone (reader_end h) → AreFull runs → Lies h skip live → Lies (Commit runs ∷ h) skip (extended live runs)
commits h runs live skip open' full lies =
    let n : ℕ = consumed h in let cs : List Run = committed_runs h in
    let more : committed_runs (Commit runs ∷ h) ≡ cs ++ runs = ap (λ x. cs ++ x) (kept_if (is_none (reader_end h)) runs (ap not open')) in
    let all : len (live ++ runs) ≡ len live + len runs = ap length (flat_map-append (λ r. r.bytes) live runs) ∙ length-append (bytes_of live) (bytes_of runs) in
    let all' : len (cs ++ runs) ≡ len cs + len runs = ap length (flat_map-append (λ r. r.bytes) cs runs) ∙ length-append (bytes_of cs) (bytes_of runs) in
    record {
      lent =
          ap (λ x. joined (drop_bytes n x)) more ∙ ap joined (cut_front n cs runs lies.reached full) ∙ sym (joined_front (drop_bytes n cs) runs)
          ∙ ap (λ x. joined (x ++ runs)) lies.lent ∙ ap joined (sym (cut_front skip live runs lies.within full)) ∙ joined_cut skip (live ++ runs);
      apart = ap joined (sym (append-nil (joined (live ++ runs)))) ∙ joined_front (live ++ runs) [] ∙ ap joined (append-nil (live ++ runs));
      full = joined_full (live ++ runs) (both_full live runs lies.full full);
      within = (let e = ap length (joined_bytes (live ++ runs)) in let w = lies.within in omega arith);
      reached = (let e = ap len more in let r = lies.reached in omega arith);
    }

pub advances : (h : List Call) (live : List Run) (skip c e : ℕ) → skip + c ≤ len live → Lies h skip live → Lies (Advance c e ∷ h) (skip + c) live
advances h live skip c e enough lies =
    let n : ℕ = consumed h in let cs : List Run = committed_runs h in
    record {
      lent = ap joined (sym (drop_twice c n cs)) ∙ joined_cut c (drop_bytes n cs) ∙ ap (drop_bytes c) lies.lent ∙ drop_twice c skip live;
      apart = lies.apart;
      full = lies.full;
      within = enough;
      reached = (let a = lent_len h in let b = ap len lies.lent in let d = cut_len skip live in let r = lies.reached in omega arith);
    }

onto_short : (r : Run) (rs : List Run) → length (onto_runs r rs) ≤ length rs + 1
onto_short r [] = omega arith
onto_short r (s ∷ rs) = elim (cases_Bool (r.segment == s.segment)) [
  | inl same ↦ rw same (omega arith)
  | inr other ↦ rw other (omega arith)
]

pub joined_short : (rs : List Run) → length (joined rs) ≤ length rs
joined_short [] = omega arith
joined_short (r ∷ rs) = let a = onto_short r (joined rs) in let b = joined_short rs in omega arith

pub onto_apart : (r : Run) (xs rs : List Run) → length xs ≤ length rs → onto_runs r xs ≡ r ∷ rs → xs ≡ rs
onto_apart r [] [] short e = refl
onto_apart r [] (s ∷ rs) short e = absurd (let n = ap length e in omega arith)
onto_apart r (x ∷ xs) rs short e = elim (cases_Bool (r.segment == x.segment)) [
  | inl same ↦ absurd (let n : suc (length xs) ≡ suc (length rs) = ap length (rw same at e) in omega arith)
  | inr other ↦ ap tail (rw other at e)
]
  where
    tail : List Run → List Run
    tail [] = []
    tail (y ∷ ys) = ys

pub goes_home : (h : List Call) (first : Run) (live : List Run) (skip : ℕ) → length first.bytes ≤ skip → Lies h skip (first ∷ live) → Lies h (skip - length first.bytes) live
goes_home h first live skip whole lies =
    let both : length (bytes_of (first ∷ live)) ≡ length first.bytes + len live = length-append first.bytes (bytes_of live) in
    record {
      lent = lies.lent ∙ (rw (le-ltb skip (length first.bytes) whole) refl);
      apart = onto_apart first (joined live) live (joined_short live) lies.apart;
      full = lies.full.1;
      within = (let w = lies.within in omega arith);
      reached = lies.reached;
    }

-- ---- the spans
abbrev pub has_some : List ℕ → Bool
has_some bytes = nat_lt 0 (length bytes)

all_some : (rs : List Run) → AreFull rs → filter has_some (map (λ r. r.bytes) rs) ≡ map (λ r. r.bytes) rs
all_some [] full = refl
all_some (r ∷ rs) full = rw (lt-ltb 0 (length r.bytes) full.0) (ap (λ l. r.bytes ∷ l) (all_some rs full.1))

-- what lies behind the first `skip` bytes of the first run, run by run, are the spans that have bytes
pub spans_are_runs : (r : Run) (rs : List Run) (skip : ℕ) → skip ≤ length r.bytes → AreFull (r ∷ rs) → filter has_some (drop skip r.bytes ∷ map (λ x. x.bytes) rs) ≡ map (λ x. x.bytes) (drop_bytes skip (r ∷ rs))
spans_are_runs r rs skip within full = elim (cases_lt skip (length r.bytes)) [
  | inl low ↦ let left : length (drop skip r.bytes) ≡ length r.bytes - skip = length-drop skip r.bytes in
      rw (lt-ltb skip (length r.bytes) low, lt-ltb 0 (length (drop skip r.bytes)) (omega arith)) (ap (λ l. drop skip r.bytes ∷ l) (all_some rs full.1))
  | inr high ↦ let left : length (drop skip r.bytes) ≡ length r.bytes - skip = length-drop skip r.bytes in
      let none : skip - length r.bytes ≡ 0 = omega arith in
      rw (le-ltb skip (length r.bytes) high, le-ltb 0 (length (drop skip r.bytes)) (omega arith))
      (all_some rs full.1 ∙ ap (map (λ x. x.bytes)) (sym (ap (λ k. drop_bytes k rs) none ∙ cut_none rs full.1)))
]
