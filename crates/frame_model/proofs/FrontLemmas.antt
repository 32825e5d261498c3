-- What stands at the front of an input still stands there when more comes.
use Rattle.std.proofs.Common.{◌≡◌, ◌<◌, ◌≤◌, ◌+◌, ℕ, Bool, true, false, cond, ◌&&◌, nat_lt, nat_le, List, [], ◌∷◌, ◌++◌, length, take, drop, refl, sym, ap, arith, inl, inr, ◌⊎◌}
use Rattle.std.specs.List.{position_or_len}
use Rattle.std.proofs.lemmas.Bool.{ltb-true, ltb-false, leb-true, leb-false, lt-ltb, le-ltb, le-leb, lt-leb, and_parts, and_cases, and_right, cases_Bool}
use Rattle.std.proofs.lemmas.List.{length-append, length-drop, take-append-le, drop-append-le}
use Rattle.frame_model.specs.declared.framing.Framing.{Framing}
use Rattle.frame_model.specs.declared.framing.BadKind.{BadKind}
use Rattle.frame_model.specs.declared.framing.BadKind.TheVariants.{TooBig, BadHead}
use Rattle.frame_model.specs.declared.head.Head.{Head}
use Rattle.frame_model.specs.declared.head.Head.TheVariants.{Short, Broken, Told}
use Rattle.frame_model.specs.Heads.{Heads, Layout, Counted, Lines, layout}
use Rattle.frame_model.specs.Spelling.{is_line_feed}
use Rattle.frame_model.specs.Cut.{Whole, Refused, Partial, front, front_in, headed_front, line_front}
use Rattle.frame_model.proofs.HeadLemmas.{AreLawful, IsLawful, lawful}

pub chosen : {A : Type 0} (b : Bool) (x y z : A) → cond b x y ≡ z → ((b ≡ true) × (x ≡ z)) ⊎ ((b ≡ false) × (y ≡ z))
chosen true x y z e = inl (refl, e)
chosen false x y z e = inr (refl, e)

-- ---- a head, and as many bytes as it tells

pub record IsHeaded (v : Head) (max : ℕ) (x p more : List ℕ) : Type 0 where
  pub h : ℕ
  pub n : ℕ
  pub told : v ≡ Told h n
  pub within : n ≤ max
  pub whole : h + n ≤ length x
  pub payload : take n (drop h x) ≡ p
  pub rest : drop (h + n) x ≡ more

pub headed_is : (v : Head) (max : ℕ) (x p more : List ℕ) → headed_front v max x ≡ Whole p more → IsHeaded v max x p more
headed_is Short max x p more e = absurd cc
headed_is (Broken k) max x p more e = absurd cc
headed_is (Told h n) max x p more e =
    elim (chosen (nat_lt max n) _ _ _ e) [
      | inl b ↦ absurd cc
      | inr b ↦ elim (chosen (nat_lt (length x) (h + n)) _ _ _ b.1) [
        | inl c ↦ absurd cc
        | inr c ↦ record { h = h; n = n; told = refl; within = ltb-false _ _ b.0; whole = ltb-false _ _ c.0; payload = cc; rest = cc }
      ]
    ]

pub headed_from : (v : Head) (h n max : ℕ) (x p more : List ℕ) → v ≡ Told h n → n ≤ max → h + n ≤ length x → take n (drop h x) ≡ p → drop (h + n) x ≡ more → headed_front v max x ≡ Whole p more
headed_from v h n max x p more told within whole payload rest = rw told (rw (le-ltb max n within, le-ltb (length x) (h + n) whole, payload, rest) refl)

-- Why an input with such a head is refused.
abbrev pub HeadRefuses : Head → ℕ → BadKind → Type 0
HeadRefuses Short max kind = ⊥
HeadRefuses (Broken k) max kind = kind ≡ BadHead k
HeadRefuses (Told h n) max kind = (max < n) × (kind ≡ TooBig n)

pub headed_refused : (v : Head) (max : ℕ) (x : List ℕ) (kind : BadKind) → headed_front v max x ≡ Refused kind → HeadRefuses v max kind
headed_refused Short max x kind e = absurd cc
headed_refused (Broken k) max x kind e = cc
headed_refused (Told h n) max x kind e =
    elim (chosen (nat_lt max n) _ _ _ e) [
      | inl b ↦ (ltb-true _ _ b.0, cc)
      | inr b ↦ elim (chosen (nat_lt (length x) (h + n)) _ _ _ b.1) [
        | inl c ↦ absurd cc
        | inr c ↦ absurd cc
      ]
    ]

pub headed_refuses : (v : Head) (max : ℕ) (x : List ℕ) (kind : BadKind) → HeadRefuses v max kind → headed_front v max x ≡ Refused kind
headed_refuses Short max x kind r = elim r [ ]
headed_refuses (Broken k) max x kind r = ap Refused (sym r)
headed_refuses (Told h n) max x kind r = rw (lt-ltb max n r.0) (ap Refused (sym r.1))

still_refuses : (v w : Head) (max : ℕ) (kind : BadKind) → ((h n : ℕ) → v ≡ Told h n → w ≡ Told h n) → ((k : ℕ) → v ≡ Broken k → w ≡ Broken k) → HeadRefuses v max kind → HeadRefuses w max kind
still_refuses Short w max kind told broken r = elim r [ ]
still_refuses (Broken k) w max kind told broken r = rw (broken k refl) r
still_refuses (Told h n) w max kind told broken r = rw (told h n refl) r

module _ (heads : Heads) (laws : AreLawful heads) where
  headed_more : (max : ℕ) (x z p more : List ℕ) → headed_front (heads.tells x) max x ≡ Whole p more → headed_front (heads.tells (x ++ z)) max (x ++ z) ≡ Whole p (more ++ z)
  headed_more max x z p more e =
      let c = headed_is (heads.tells x) max x p more e in
      let long = laws.within x c.h c.n c.told in
      headed_from (heads.tells (x ++ z)) c.h c.n max (x ++ z) p (more ++ z) (laws.more x z c.h c.n c.told) c.within (omega (arith, length-append x z, c.whole))
      (rw (drop-append-le c.h x z long, take-append-le c.n (drop c.h x) z (omega (arith, length-drop c.h x, c.whole))) c.payload)
      (rw (drop-append-le (c.h + c.n) x z c.whole, c.rest) refl)

  headed_refused_more : (max : ℕ) (x z : List ℕ) (kind : BadKind) → headed_front (heads.tells x) max x ≡ Refused kind → headed_front (heads.tells (x ++ z)) max (x ++ z) ≡ Refused kind
  headed_refused_more max x z kind e =
      headed_refuses (heads.tells (x ++ z)) max (x ++ z) kind (still_refuses (heads.tells x) (heads.tells (x ++ z)) max kind (λ h n. laws.more x z h n) (λ k. laws.broken x z k) (headed_refused (heads.tells x) max x kind e))

  headed_shorter : (max : ℕ) (x p more : List ℕ) → headed_front (heads.tells x) max x ≡ Whole p more → length more < length x
  headed_shorter max x p more e =
      let c = headed_is (heads.tells x) max x p more e in
      let some = laws.some x c.h c.n c.told in
      rw (← c.rest) (omega (arith, length-drop (c.h + c.n) x, c.whole, some))

-- ---- the bytes up to a line feed

abbrev pub line_len : List ℕ → ℕ
line_len x = position_or_len is_line_feed x

pub line_len_le : (x : List ℕ) → line_len x ≤ length x
line_len_le [] = omega arith
line_len_le (b ∷ x) = elim (cases_Bool (is_line_feed b)) [
  | inl t ↦ rw t (omega arith)
  | inr t ↦ rw t (omega (arith, line_len_le x))
]

pub line_len_more : (x z : List ℕ) → line_len x < length x → line_len (x ++ z) ≡ line_len x
line_len_more [] z h = absurd (omega arith)
line_len_more (b ∷ x) z h = elim (cases_Bool (is_line_feed b)) [
  | inl t ↦ rw t refl
  | inr t ↦
      let shorter : 1 + line_len x < length (b ∷ x) = rw t at h in
      rw (t, line_len_more x z (omega arith)) refl
]

line_len_least : (x z : List ℕ) → line_len x ≤ line_len (x ++ z)
line_len_least [] z = omega arith
line_len_least (b ∷ x) z = elim (cases_Bool (is_line_feed b)) [
  | inl t ↦ rw t (omega arith)
  | inr t ↦ rw t (omega (arith, line_len_least x z))
]

pub record IsLine (max : ℕ) (x p more : List ℕ) : Type 0 where
  pub ends : line_len x < length x
  pub within : line_len x ≤ max
  pub payload : take (line_len x) x ≡ p
  pub rest : drop (line_len x + 1) x ≡ more

pub line_is : (max : ℕ) (x p more : List ℕ) → line_front max x ≡ Whole p more → IsLine max x p more
line_is max x p more e =
    elim (chosen (nat_lt (line_len x) (length x) && nat_le (line_len x) max) _ _ _ e) [
      | inl a ↦
          let parts = and_parts (nat_lt (line_len x) (length x)) (nat_le (line_len x) max) a.0 in
          record { ends = ltb-true _ _ parts.0; within = leb-true _ _ parts.1; payload = cc; rest = cc }
      | inr a ↦ elim (chosen (nat_lt max (length x)) _ _ _ a.1) [
        | inl b ↦ absurd cc
        | inr b ↦ absurd cc
      ]
    ]

pub line_from : (max : ℕ) (x p more : List ℕ) → IsLine max x p more → line_front max x ≡ Whole p more
line_from max x p more l = rw (lt-ltb (line_len x) (length x) l.ends, le-leb (line_len x) max l.within, l.payload, l.rest) refl

pub line_refused : (max : ℕ) (x : List ℕ) (kind : BadKind) → line_front max x ≡ Refused kind → (max < length x) × (max < line_len x) × (kind ≡ TooBig (max + 1))
line_refused max x kind e =
    elim (chosen (nat_lt (line_len x) (length x) && nat_le (line_len x) max) _ _ _ e) [
      | inl a ↦ absurd cc
      | inr a ↦ elim (chosen (nat_lt max (length x)) _ _ _ a.1) [
        | inl b ↦
            let long : max < length x = ltb-true _ _ b.0 in (
              long,
              elim (and_cases (nat_lt (line_len x) (length x)) (nat_le (line_len x) max) a.0) [
                | inl c ↦ omega (arith, ltb-false (line_len x) (length x) c)
                | inr c ↦ leb-false (line_len x) max c
              ],
              cc,
            )
        | inr b ↦ absurd cc
      ]
    ]

line_more : (max : ℕ) (x z p more : List ℕ) → line_front max x ≡ Whole p more → line_front max (x ++ z) ≡ Whole p (more ++ z)
line_more max x z p more e =
    let l = line_is max x p more e in
    let same = line_len_more x z l.ends in
    line_from max (x ++ z) p (more ++ z) (record {
      ends = rw same (omega (arith, length-append x z, l.ends));
      within = rw same l.within;
      payload = rw (same, take-append-le (line_len x) x z (omega (arith, l.ends))) l.payload;
      rest = rw (same, drop-append-le (line_len x + 1) x z (omega (arith, l.ends)), l.rest) refl;
    })

line_refused_more : (max : ℕ) (x z : List ℕ) (kind : BadKind) → line_front max x ≡ Refused kind → line_front max (x ++ z) ≡ Refused kind
line_refused_more max x z kind e =
    let l = line_refused max x kind e in
    rw (
      and_right (nat_lt (line_len (x ++ z)) (length (x ++ z))) (nat_le (line_len (x ++ z)) max) (lt-leb (line_len (x ++ z)) max (omega (arith, line_len_least x z, l.1))),
      lt-ltb max (length (x ++ z)) (omega (arith, length-append x z, l.0)),
      l.2,
    ) refl

line_shorter : (max : ℕ) (x p more : List ℕ) → line_front max x ≡ Whole p more → length more < length x
line_shorter max x p more e =
    let l = line_is max x p more e in
    rw (← l.rest) (omega (arith, length-drop (line_len x + 1) x, l.ends))

-- ---- each layout, and so each framing

more_in : (l : Layout) → IsLawful l → (max : ℕ) (x z p more : List ℕ) → front_in l max x ≡ Whole p more → front_in l max (x ++ z) ≡ Whole p (more ++ z)
more_in (Counted heads) laws = headed_more heads laws
more_in Lines laws = line_more

refused_more_in : (l : Layout) → IsLawful l → (max : ℕ) (x z : List ℕ) (kind : BadKind) → front_in l max x ≡ Refused kind → front_in l max (x ++ z) ≡ Refused kind
refused_more_in (Counted heads) laws = headed_refused_more heads laws
refused_more_in Lines laws = line_refused_more

shorter_in : (l : Layout) → IsLawful l → (max : ℕ) (x p more : List ℕ) → front_in l max x ≡ Whole p more → length more < length x
shorter_in (Counted heads) laws = headed_shorter heads laws
shorter_in Lines laws = line_shorter

empty_in : (l : Layout) → IsLawful l → (max : ℕ) → front_in l max [] ≡ Partial
empty_in (Counted heads) laws max = ap (λ v. headed_front v max []) laws.empty
empty_in Lines laws max = rw (le-ltb max 0 (omega arith)) refl

pub front_more : (f : Framing) (max : ℕ) (x z p more : List ℕ) → front f max x ≡ Whole p more → front f max (x ++ z) ≡ Whole p (more ++ z)
front_more f = more_in (layout f) (lawful f)

pub front_refused_more : (f : Framing) (max : ℕ) (x z : List ℕ) (kind : BadKind) → front f max x ≡ Refused kind → front f max (x ++ z) ≡ Refused kind
front_refused_more f = refused_more_in (layout f) (lawful f)

pub front_shorter : (f : Framing) (max : ℕ) (x p more : List ℕ) → front f max x ≡ Whole p more → length more < length x
front_shorter f = shorter_in (layout f) (lawful f)

pub front_empty : (f : Framing) (max : ℕ) → front f max [] ≡ Partial
front_empty f = empty_in (layout f) (lawful f)
