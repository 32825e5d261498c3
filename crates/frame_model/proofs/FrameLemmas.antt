-- Where the frame at the front of an input lies.
use Rattle.std.proofs.Common.{◌≡◌, ◌<◌, ◌≤◌, ◌+◌, ◌-◌, ◌⊎◌, inl, inr, ◌&&◌, nat_lt, nat_le, ℕ, List, [], ◌++◌, length, take, drop, refl, sym, ap, ◌∙◌, arith, add-zero, zero-add}
use Rattle.std.specs.Prelude.{slice_range}
use Rattle.std.specs.List.{position_or_len}
use Rattle.std.proofs.lemmas.Bool.{ltb-true, ltb-false}
use Rattle.std.proofs.lemmas.List.{length-append, length-take, length-drop}
use Rattle.std.proofs.Math.Nat.{sub-zero}
use Rattle.frame_model.specs.declared.framing.Framing.{Framing}
use Rattle.frame_model.specs.declared.head.Head.{Head}
use Rattle.frame_model.specs.declared.head.Head.TheVariants.{Short, Broken, Told}
use Rattle.frame_model.specs.Heads.{Heads, Layout, Counted, Lines, layout}
use Rattle.frame_model.specs.Spelling.{is_line_feed, head_in, head_of, longest_frame, longest_head, tail_in, tail_of, spelling}
use Rattle.frame_model.specs.Cut.{Whole, Partial, front, front_in, headed_front, line_front}
use Rattle.frame_model.proofs.HeadLemmas.{AreLawful, IsLawful, lawful}
use Rattle.frame_model.proofs.FrontLemmas.{chosen, front_empty, headed_is, line_is, line_len}

-- a payload and what follows its frame, where the frame stands at the front
pub record LiesAtFront (l : Layout) (x p more : List ℕ) (from to end : ℕ) : Type 0 where
  pub fits : end ≤ length x
  pub payload : slice_range x from to ≡ p
  pub rest : drop end x ≡ more
  pub some : 0 < end

record IsHeadedAt (head x p more : List ℕ) : Type 0 where
  fits : length head + length p ≤ length x
  payload : take (length head + length p - length head) (drop (length head) x) ≡ p
  rest : drop (length head + length p) x ≡ more
  some : 0 < length head

headed_at : (heads : Heads) → AreLawful heads → (max : ℕ) (x p more : List ℕ) → headed_front (heads.tells x) max x ≡ Whole p more → IsHeadedAt (heads.writes (length p)) x p more
headed_at heads laws max x p more e =
    let c = headed_is (heads.tells x) max x p more e in
    let len : length (take c.n (drop c.h x)) ≡ c.n = omega (arith, length-take c.n (drop c.h x), length-drop c.h x, c.whole) in
    let p_len : length p ≡ c.n = sym (ap length c.payload) ∙ len in
    let head : length (heads.writes (length p)) ≡ c.h = ap (λ (n : ℕ). length (heads.writes n)) p_len ∙ sym (laws.counted x c.h c.n c.told) in
    let some = laws.some x c.h c.n c.told in
    let less : c.h + c.n - c.h ≡ c.n = omega arith in
    record {
      fits = omega (arith, head, p_len, c.whole);
      payload = rw (head, p_len, less) c.payload;
      rest = rw (head, p_len) c.rest;
      some = omega (arith, head, some);
    }

frame_at_in : (l : Layout) → IsLawful l → (max : ℕ) (x p more : List ℕ) → front_in l max x ≡ Whole p more
    → LiesAtFront l x p more (length (head_in l (length p))) (length (head_in l (length p)) + length p) (length (head_in l (length p)) + length p + length (tail_in l))
frame_at_in (Counted heads) laws max x p more e =
    let c = headed_at heads laws max x p more e in
    record { fits = omega (arith, c.fits); payload = c.payload; rest = rw (add-zero) c.rest; some = omega (arith, c.some) }
frame_at_in Lines laws max x p more e =
    let l = line_is max x p more e in
    let n = position_or_len is_line_feed x in
    let p_len : length p ≡ n = rw (← l.payload) (omega (arith, length-take n x, l.ends)) in
    record {
      fits = rw p_len (omega (arith, l.ends));
      payload = rw (p_len, zero-add, sub-zero) l.payload;
      rest = rw (p_len, zero-add) l.rest;
      some = omega arith;
    }

pub frame_at : (f : Framing) (max : ℕ) (x p more : List ℕ) → front f max x ≡ Whole p more
    → LiesAtFront (layout f) x p more (length (head_of f (length p))) (length (head_of f (length p)) + length p) (length (head_of f (length p)) + length p + length (tail_of f))
frame_at f = frame_at_in (layout f) (lawful f)

-- ---- how long frames are

pub spelling_len : (f : Framing) (p : List ℕ) → length (spelling f p) ≡ length (head_of f (length p)) + length p + length (tail_of f)
spelling_len f p = omega (arith, length-append (head_of f (length p) ++ p) (tail_of f), length-append (head_of f (length p)) p)

around_in : (l : Layout) → IsLawful l → (n : ℕ) → (0 < length (head_in l n) + length (tail_in l)) × (length (head_in l n) + length (tail_in l) ≤ 4)
around_in (Counted heads) laws n = let size = laws.written n in (omega (arith, size.0), omega (arith, size.1, laws.few))
around_in Lines laws n = (omega arith, omega arith)

-- a frame has a byte beside its payload, and at most four
pub around : (f : Framing) (n : ℕ) → (0 < length (head_of f n) + length (tail_of f)) × (length (head_of f n) + length (tail_of f) ≤ 4)
around f = around_in (layout f) (lawful f)

pub spelling_some : (f : Framing) (p : List ℕ) → 0 < length (spelling f p)
spelling_some f p = let few = around f (length p) in omega (arith, spelling_len f p, few.0)

-- ---- what is less than a frame is shorter than a longest one

pub record IsPart (v : Head) (max : ℕ) (x : List ℕ) : Type 0 where
  pub h : ℕ
  pub n : ℕ
  pub told : v ≡ Told h n
  pub within : n ≤ max
  pub short : length x < h + n

pub headed_partial : (v : Head) (max : ℕ) (x : List ℕ) → headed_front v max x ≡ Partial → (v ≡ Short) ⊎ IsPart v max x
headed_partial Short max x e = inl refl
headed_partial (Broken k) max x e = absurd cc
headed_partial (Told h n) max x e =
    elim (chosen (nat_lt max n) _ _ _ e) [
      | inl b ↦ absurd cc
      | inr b ↦ elim (chosen (nat_lt (length x) (h + n)) _ _ _ b.1) [
        | inl c ↦ inr (record { h = h; n = n; told = refl; within = ltb-false _ _ b.0; short = ltb-true _ _ c.0 })
        | inr c ↦ absurd cc
      ]
    ]

line_partial : (max : ℕ) (x : List ℕ) → line_front max x ≡ Partial → length x ≤ max
line_partial max x e =
    elim (chosen (nat_lt (line_len x) (length x) && nat_le (line_len x) max) _ _ _ e) [
      | inl a ↦ absurd cc
      | inr a ↦ elim (chosen (nat_lt max (length x)) _ _ _ a.1) [
        | inl b ↦ absurd cc
        | inr b ↦ ltb-false _ _ b.0
      ]
    ]

short_in : (l : Layout) → IsLawful l → (max : ℕ) (x : List ℕ) → front_in l max x ≡ Partial → length x < longest_head l + max + length (tail_in l)
short_in (Counted heads) laws max x e = elim (headed_partial (heads.tells x) max x e) [
  | inl short ↦ let few = laws.short x short in omega (arith, few)
  | inr part ↦
      let counted = laws.counted x part.h part.n part.told in
      let few = laws.written part.n in
      omega (arith, counted, few.1, part.within, part.short)
]
short_in Lines laws max x e = let few = line_partial max x e in omega (arith, few)

pub partial_short : (f : Framing) (max : ℕ) (x : List ℕ) → front f max x ≡ Partial → length x < longest_frame f max
partial_short f = short_in (layout f) (lawful f)

pub some_longest : (f : Framing) (max : ℕ) → 0 < longest_frame f max
some_longest f max = partial_short f max [] (front_empty f max)
