-- What stands first in the cut is what stands at the front.
use Rattle.std.proofs.Common.{◌≡◌, ◌↔◌, ◌+◌, ◌≤◌, nat_lt, take, Some, ℕ, arith, inl, inr, min, Bool, true, false, List, [], ◌∷◌, ◌++◌, length, drop, refl, sym, ap, subst, ◌<◌, ◌∙◌, zero-add}
use Rattle.std.specs.Prelude.{slice_range}
use Rattle.std.proofs.lemmas.Bool.{cases_Bool, ltb-false}
use Rattle.std.proofs.lemmas.List.{append-nil, length-drop, length-take}
use Rattle.std.proofs.Math.Nat.{sub-zero}
use Rattle.std.proofs.Math.Seq.{take-length, drop-length}
use Rattle.frame_model.specs.declared.framing.Framing.{Framing}
use Rattle.frame_model.specs.declared.framing.Framing.TheVariants.{Line}
use Rattle.frame_model.specs.declared.framing.BadKind.{BadKind}
use Rattle.frame_grammar.specs.declared.cutter.Cut.TheVariants as cuts
use Rattle.frame_model.specs.declared.head.Head.TheVariants.{Told}
use Rattle.frame_model.specs.Heads.{Heads, Layout, Counted, Lines, layout, told_by, told_in}
use Rattle.frame_model.specs.Spelling.{head_of, longest_frame, tail_of}
use Rattle.frame_model.specs.Cut.{Cutting, Front, Whole, Refused, Partial, front, front_in, headed_front, last_line_in, verdict_in, cut, End, behind_frame, MayCome, IsRefused}
use Rattle.frame_grammar.specs.declared.cutter.Cut.{Cut}
use Rattle.frame_grammar.specs.Answers.{frame_in, frame_of, first_of, first_in, answer_in, answer_on, answer_within, HeadAnswers, Tells}
use Rattle.frame_model.proofs.HeadLemmas.{AreLawful, IsLawful, lawful, lines_is_line, some_is}
use Rattle.frame_model.proofs.FrontLemmas.{front_more, front_empty}
use Rattle.frame_model.proofs.FrameLemmas.{frame_at, partial_short, spelling_len}
use Rattle.frame_model.proofs.CutLemmas.{cut_whole, cut_refused, cut_partial}
use Rattle.frame_model.proofs.RefusedLemmas.{refused}

partial_first : (l : Layout) (x : List ℕ) (at_end : Bool) → first_of l x (last_line_in l Partial at_end x) (verdict_in l Partial at_end 0 x) ≡ answer_in l x at_end Partial
partial_first (Counted heads) [] true = refl
partial_first (Counted heads) (b ∷ x) true = refl
partial_first (Counted heads) x false = refl
partial_first Lines [] true = refl
partial_first Lines (b ∷ x) true = refl
partial_first Lines x false = refl

pub first_is : (f : Framing) (max : ℕ) (x : List ℕ) (at_end : Bool) → first_in f max x at_end ≡ answer_on f x at_end (front f max x)
first_is f max x at_end =
    (elim (front f max x) as (λ v. front f max x ≡ v → first_in f max x at_end ≡ answer_on f x at_end (front f max x)) [
      | Whole p more ↦ λ e. ap (λ c. first_of (layout f) x c.payloads c.verdict) (cut_whole f max x p more at_end e) ∙ rw e refl
      | Refused kind ↦ λ e. ap (λ c. first_of (layout f) x c.payloads c.verdict) (cut_refused f max x kind at_end e) ∙ rw e refl
      | Partial ↦ λ e. ap (λ c. first_of (layout f) x c.payloads c.verdict) (cut_partial f max x at_end e) ∙ rw e (partial_first (layout f) x at_end)
    ]) refl

-- ---- a whole frame

whole_told : (f : Framing) (max : ℕ) (x p more : List ℕ) (at_end : Bool) → front f max x ≡ Whole p more → Tells f max x at_end (frame_of f x p)
whole_told f max x p more at_end e =
    let l = frame_at f max x p more e in
    let from = length (head_of f (length p)) in
    let to = from + length p in
    let last = to + length (tail_of f) in
    let least : min last (length x) ≡ last = omega (arith, l.fits) in
    rw least (record {
      ordered = (omega arith, omega arith, l.fits);
      some = l.some;
      sized = inl (rw (l.payload, spelling_len f p) refl);
      goes_on = λ z b may. rw (l.payload, l.rest, ← spelling_len f p) (cut_whole f max (x ++ z) p (more ++ z) b (front_more f max x z p more e));
    })

-- ---- less than a frame

-- behind a line that the input's end ends, there is nothing
unended_goes_on : (max : ℕ) (p : List ℕ) → cut Line max p true ≡ record { payloads = p ∷ []; verdict = End } → (z : List ℕ) (b : Bool) → MayCome true z b
    → cut Line max (p ++ z) b ≡ behind_frame (slice_range p 0 (length p)) (length p) (cut Line max (drop (length p) p ++ z) b)
unended_goes_on max p e z b may =
    let nothing = cut_partial Line max [] true (front_empty Line max) in
    rw (may.0, may.1, append-nil p, sub-zero, take-length p, drop-length p) (e ∙ sym (ap (λ c. behind_frame p (length p) c) nothing))

last_line_told : (max b : ℕ) (x : List ℕ) → front Line max (b ∷ x) ≡ Partial → Tells Line max (b ∷ x) true (frame_of Line (b ∷ x) (b ∷ x))
last_line_told max b x e =
    let p = b ∷ x in
    let n = length p in
    let least : min (n + 1) n ≡ n = omega arith in
    rw (zero-add, least) (record {
      ordered = (omega arith, omega arith, omega arith);
      some = omega arith;
      sized = inr (refl, refl);
      goes_on = unended_goes_on max p (cut_partial Line max p true e);
    })

abbrev partial_cutting : Layout → List ℕ → Bool → Cutting
partial_cutting l x at_end = record { payloads = last_line_in l Partial at_end x; verdict = verdict_in l Partial at_end 0 x }

partial_cut : (f : Framing) (l : Layout) → layout f ≡ l → (max : ℕ) (x : List ℕ) (at_end : Bool) → front f max x ≡ Partial → cut f max x at_end ≡ partial_cutting l x at_end
partial_cut f l is max x at_end e = cut_partial f max x at_end e ∙ ap (λ (m : Layout). partial_cutting m x at_end) is

by_layout : (f : Framing) (l : Layout) → layout f ≡ l → (max : ℕ) (x : List ℕ) (at_end : Bool) → front f max x ≡ Partial → Tells f max x at_end (answer_in l x at_end Partial)
by_layout f (Counted heads) is max x false e = partial_cut f (Counted heads) is max x false e
by_layout f Lines is max x false e = partial_cut f Lines is max x false e
by_layout f (Counted heads) is max [] true e = partial_cut f (Counted heads) is max [] true e
by_layout f Lines is max [] true e = partial_cut f Lines is max [] true e
by_layout f (Counted heads) is max (b ∷ x) true e = partial_cut f (Counted heads) is max (b ∷ x) true e
by_layout f Lines is max (b ∷ x) true e =
    subst (λ (g : Framing). front g max (b ∷ x) ≡ Partial → Tells g max (b ∷ x) true (frame_in Lines (b ∷ x) (b ∷ x))) (sym (lines_is_line f is)) (last_line_told max b x) e

partial_told : (f : Framing) (max : ℕ) (x : List ℕ) (at_end : Bool) → front f max x ≡ Partial → Tells f max x at_end (answer_on f x at_end Partial)
partial_told f = by_layout f (layout f) refl

pub told : (f : Framing) (max : ℕ) (x : List ℕ) (at_end : Bool) → Tells f max x at_end (answer_on f x at_end (front f max x))
told f max x at_end =
    (elim (front f max x) as (λ v. front f max x ≡ v → Tells f max x at_end (answer_on f x at_end (front f max x))) [
      | Whole p more ↦ λ e. rw e (whole_told f max x p more at_end e)
      | Refused kind ↦ λ e. rw e (cut_refused f max x kind at_end e)
      | Partial ↦ λ e. rw e (partial_told f max x at_end e)
    ]) refl

-- ---- behind a head

within_partial : (heads : Heads) (x : List ℕ) (at_end : Bool) → answer_within x at_end ≡ answer_in (Counted heads) x at_end Partial
within_partial heads x false = refl
within_partial heads [] true = refl
within_partial heads (b ∷ x) true = refl

frame_told : (heads : Heads) → AreLawful heads → (x : List ℕ) (h n : ℕ) → heads.tells x ≡ Told h n → h + n ≤ length x
    → cuts.Frame h (h + n) (h + n) ≡ frame_in (Counted heads) x (take n (drop h x))
frame_told heads laws x h n told whole =
    let len : length (take n (drop h x)) ≡ n = omega (arith, length-take n (drop h x), length-drop h x, whole) in
    let size : length (heads.writes n) ≡ h = sym (laws.counted x h n told) in
    let least : min (h + n + 0) (length x) ≡ h + n = omega (arith, whole) in
    rw (len, size, least) refl

headed_answer : (heads : Heads) → AreLawful heads → (max : ℕ) (x : List ℕ) (at_end : Bool) (h n : ℕ) (answer : Cut) → heads.tells x ≡ Told h n
    → HeadAnswers max x at_end h n answer → answer ≡ answer_in (Counted heads) x at_end (headed_front (heads.tells x) max x)
headed_answer heads laws max x at_end h n answer told is = elim (cases_Bool (nat_lt max n)) [
  | inl great ↦ rw (is, told, great) refl
  | inr fits ↦ elim (cases_Bool (nat_lt (length x) (h + n))) [
    | inl part ↦ rw (is, told, fits, part) (within_partial heads x at_end)
    | inr whole ↦ rw (is, told, fits, whole) (frame_told heads laws x h n told (ltb-false (length x) (h + n) whole))
  ]
]

behind_in : (l : Layout) → IsLawful l → (max : ℕ) (x : List ℕ) (at_end : Bool) (h n : ℕ) (answer : Cut) → told_in l x ≡ Some (Told h n)
    → HeadAnswers max x at_end h n answer → answer ≡ answer_in l x at_end (front_in l max x)
behind_in (Counted heads) laws max x at_end h n answer told is = headed_answer heads laws max x at_end h n answer (some_is (heads.tells x) (Told h n) told) is
behind_in Lines laws max x at_end h n answer told is = absurd cc

pub behind_told : (f : Framing) (max : ℕ) (x : List ℕ) (at_end : Bool) (h n : ℕ) (answer : Cut) → told_by f x ≡ Some (Told h n)
    → HeadAnswers max x at_end h n answer → answer ≡ answer_on f x at_end (front f max x)
behind_told f = behind_in (layout f) (lawful f)

-- ---- no frame, however it goes on

bad_is_refused : (l : Layout) (x : List ℕ) (at_end : Bool) (v : Front) (kind : BadKind) → answer_in l x at_end v ≡ cuts.Bad kind → v ≡ Refused kind
bad_is_refused l x at_end (Refused k) kind e = cc
bad_is_refused (Counted heads) x at_end (Whole p more) kind e = absurd cc
bad_is_refused (Counted heads) x false Partial kind e = absurd cc
bad_is_refused (Counted heads) [] true Partial kind e = absurd cc
bad_is_refused (Counted heads) (b ∷ x) true Partial kind e = absurd cc
bad_is_refused Lines x at_end (Whole p more) kind e = absurd cc
bad_is_refused Lines x false Partial kind e = absurd cc
bad_is_refused Lines [] true Partial kind e = absurd cc
bad_is_refused Lines (b ∷ x) true Partial kind e = absurd cc

pub bad : (f : Framing) (max : ℕ) (x : List ℕ) (at_end : Bool) (kind : BadKind) → (answer_on f x at_end (front f max x) ≡ cuts.Bad kind) ↔ IsRefused f max x kind
bad f max x at_end kind =
    let both = refused f max x kind in
    (λ e. both.0 (bad_is_refused (layout f) x at_end (front f max x) kind e), λ h. rw (both.1 h) refl)

-- ---- less than a frame, while more may come

same : (v : Front) → v ≡ v
same v = refl

more_is_partial : (l : Layout) (x : List ℕ) (at_end : Bool) (v : Front) → answer_in l x at_end v ≡ cuts.More → v ≡ Partial
more_is_partial l x at_end (Refused k) e = absurd cc
more_is_partial (Counted heads) x at_end (Whole p more) e = absurd cc
more_is_partial (Counted heads) x false Partial e = same Partial
more_is_partial (Counted heads) [] true Partial e = absurd cc
more_is_partial (Counted heads) (b ∷ x) true Partial e = absurd cc
more_is_partial Lines x at_end (Whole p more) e = absurd cc
more_is_partial Lines x false Partial e = same Partial
more_is_partial Lines [] true Partial e = absurd cc
more_is_partial Lines (b ∷ x) true Partial e = absurd cc

pub short : (f : Framing) (max : ℕ) (x : List ℕ) (at_end : Bool) → answer_on f x at_end (front f max x) ≡ cuts.More → length x < longest_frame f max
short f max x at_end e = partial_short f max x (more_is_partial (layout f) x at_end (front f max x) e)
