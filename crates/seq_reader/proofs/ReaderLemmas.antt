-- What a reader has still to read.
use Rattle.std.proofs.Common.{◌≡◌, ◌↔◌, ◌+◌, ◌-◌, ◌<◌, ◌≤◌, ℕ, zero, suc, Bool, true, false, not, cond, eqb, Contains, Some, None, List, [], ◌∷◌, length, get_or, drop, refl, ap, sym, ◌∙◌, arith}
use Rattle.std.specs.List.{concat, position, position_or_len, prefix_len}
use Rattle.std.proofs.lemmas.Bool.{false≢true, eq-eqb, ne_eqb}
use Rattle.span_seq.proofs.ScanLemmas.{at_none, at_some}
use Rattle.span_seq.specs.Spans.{Part, bytes_of}
use Rattle.span_seq.proofs.SpanLemmas.{range_behind}
use Rattle.seq_reader.specs.Reading.{Reading, rest_of}

-- a reader whose rest is this part, of which it has passed so many bytes
abbrev pub reading_at : Part → ℕ → Reading
reading_at p place = record { part = record p { from = p.from - place }; place = place }

pub rest_of_view : (p : Part) (place : ℕ) (r : Reading) → place ≤ p.from → p.from ≤ p.to → reading_at p place ≡ r → bytes_of p ≡ rest_of r
rest_of_view p place r passed ordered is =
    let start = p.from - place in
    let len : p.from - start ≡ place = omega arith in
    range_behind (concat p.spans) start p.to p.from (omega arith) ordered
    ∙ ap (λ n. drop n (bytes_of (record p { from = start }))) len
    ∙ ap rest_of is

-- ---- how many bytes of a kind come first

double_not : (b : Bool) → not (not b) ≡ b
double_not true = refl
double_not false = refl

pub prefix_len-same : (p q : ℕ → Bool) (xs : List ℕ) → ((k : ℕ) → k < length xs → p (get_or xs k 0) ≡ q (get_or xs k 0)) → prefix_len p xs ≡ prefix_len q xs
prefix_len-same p q [] same = refl
prefix_len-same p q (x ∷ xs) same = rw (same 0 (omega arith)) (ap (λ n. cond (q x) (1 + n) 0) (prefix_len-same p q xs (λ k lt. same (suc k) (omega arith))))

-- the first byte that isn't of a kind stands behind those of it
pub first_other : (p : ℕ → Bool) (xs : List ℕ) → position_or_len (λ b. not (p b)) xs ≡ prefix_len p xs
first_other p xs = prefix_len-same (λ b. not (not (p b))) p xs (λ k _. double_not (p (get_or xs k 0)))

pub counted_to : (p : ℕ → Bool) (xs : List ℕ) (at : ℕ) → Some at ≡ position (λ b. not (p b)) xs → at ≡ prefix_len p xs
counted_to p xs at e = sym (at_some (λ b. not (p b)) xs at (sym e)).0 ∙ first_other p xs

pub counted_all : (p : ℕ → Bool) (xs : List ℕ) → None ≡ position (λ b. not (p b)) xs → length xs ≡ prefix_len p xs
counted_all p xs e = sym (at_none (λ b. not (p b)) xs (sym e)) ∙ first_other p xs

-- ---- a set of one byte

member_of_one : (byte member k : ℕ) → k < 1 → get_or (byte ∷ []) k member ≡ member → byte ≡ member
member_of_one byte member zero lt e = e
member_of_one byte member (suc k) lt e = absurd (omega arith)

only_one : (has : Bool) (byte member : ℕ) → (has ≡ true) ↔ Contains (byte ∷ []) member → has ≡ eqb member byte
only_one true byte member both = let at = both.0 refl in sym (eq-eqb member byte (sym (member_of_one byte member at.0 at.1 at.2)))
only_one false byte member both = sym (ne_eqb member byte (λ e. false≢true (both.1 (0, omega arith, sym e))))

pub counted_one : (has : ℕ → Bool) (byte : ℕ) (xs : List ℕ) → ((member : ℕ) → (has member ≡ true) ↔ Contains (byte ∷ []) member) → prefix_len has xs ≡ prefix_len (λ other. eqb other byte) xs
counted_one has byte xs only = prefix_len-same has (λ other. eqb other byte) xs (λ k _. only_one (has (get_or xs k 0)) byte (get_or xs k 0) (only (get_or xs k 0)))
