-- A translation goes on where more comes, and stays as it is once it is bad.
use Rattle.std.proofs.Common.{◌≡◌, ℕ, Bool, false, List, [], ◌∷◌, ◌++◌, refl, ap, ◌∙◌, append_assoc, Some, None}
use mathlib.Core.List.{IsPrefix}
use Rattle.frame_model.specs.declared.framing.Framing.{Framing}
use Rattle.frame_model.specs.Heads.{Layout, Counted, Lines, layout}
use Rattle.frame_model.specs.declared.framing.BadKind.{BadKind}
use Rattle.frame_model.specs.Spelling.{obstacle, spelling, text}
use Rattle.frame_model.specs.Cut.{Front, Whole, Refused, Partial, front, frames, Verdict, Bad, last_line, last_line_in, verdict_in, verdict_on, cut}
use Rattle.frame_model.specs.Translation.{spellable, from_unspellable, translation_of, translation_between}
use Rattle.frame_model.proofs.FrontLemmas.{front_refused_more}
use Rattle.frame_model.proofs.FramesLemmas.{continues, frames_refused}

append_nil : {A : Type 0} (xs : List A) → xs ++ [] ≡ xs
append_nil [] = refl
append_nil (x ∷ xs) = ap (λ ys. x ∷ ys) (append_nil xs)

-- while the input is open there is no last line
no_last_in : (l : Layout) (v : Front) (rest : List ℕ) → last_line_in l v false rest ≡ []
no_last_in (Counted heads) v rest = refl
no_last_in Lines (Whole p more) rest = refl
no_last_in Lines (Refused kind) rest = refl
no_last_in Lines Partial rest = refl

pub no_last : (f : Framing) (v : Front) (rest : List ℕ) → last_line f v false rest ≡ []
no_last f = no_last_in (layout f)

no_last_refused_in : (l : Layout) (kind : BadKind) (at_end : Bool) (rest : List ℕ) → last_line_in l (Refused kind) at_end rest ≡ []
no_last_refused_in (Counted heads) kind at_end rest = refl
no_last_refused_in Lines kind at_end rest = refl

pub no_last_refused : (f : Framing) (kind : BadKind) (at_end : Bool) (rest : List ℕ) → last_line f (Refused kind) at_end rest ≡ []
no_last_refused f = no_last_refused_in (layout f)

bad_is_refused_in : (l : Layout) (v : Front) (at : ℕ) (rest : List ℕ) (place : ℕ) (kind : BadKind) → verdict_in l v false at rest ≡ Bad place kind → v ≡ Refused kind
bad_is_refused_in l (Refused k) at rest place kind e = cc
bad_is_refused_in (Counted heads) (Whole p more) at rest place kind e = absurd cc
bad_is_refused_in Lines (Whole p more) at rest place kind e = absurd cc
bad_is_refused_in (Counted heads) Partial at rest place kind e = absurd cc
bad_is_refused_in Lines Partial at rest place kind e = absurd cc

bad_is_refused : (f : Framing) (v : Front) (at : ℕ) (rest : List ℕ) (place : ℕ) (kind : BadKind) → verdict_on f v false at rest ≡ Bad place kind → v ≡ Refused kind
bad_is_refused f = bad_is_refused_in (layout f)

-- ---- the payloads before the first that cannot be spelt

text_prefix : (output : Framing) (ps qs : List (List ℕ)) → IsPrefix (text output (spellable output ps)) (text output (spellable output (ps ++ qs)))
text_prefix output [] qs = (text output (spellable output qs), refl)
text_prefix output (p ∷ ps) qs =
    (elim (obstacle output p) as (λ o. obstacle output p ≡ o → IsPrefix (text output (spellable output (p ∷ ps))) (text output (spellable output ((p ∷ ps) ++ qs)))) [
      | None ↦ λ e.
          let rest = text_prefix output ps qs in
          rw e (rest.0, append_assoc (spelling output p) (text output (spellable output ps)) rest.0 ∙ ap (λ (t : List ℕ). spelling output p ++ t) rest.1)
      | Some at ↦ λ e. rw e ([], refl)
    ]) refl

pub record StopsWithin (output : Framing) (ps qs : List (List ℕ)) (q : List ℕ) (r : List (List ℕ)) : Type 0 where
  pub before : spellable output (ps ++ qs) ≡ spellable output ps
  pub from : from_unspellable output (ps ++ qs) ≡ q ∷ (r ++ qs)

stops_within : (output : Framing) (ps qs : List (List ℕ)) (q : List ℕ) (r : List (List ℕ)) → from_unspellable output ps ≡ q ∷ r → StopsWithin output ps qs q r
stops_within output [] qs q r e = absurd cc
stops_within output (p ∷ ps) qs q r e =
    (elim (obstacle output p) as (λ o. obstacle output p ≡ o → StopsWithin output (p ∷ ps) qs q r) [
      | None ↦ λ o.
          let inner = stops_within output ps qs q r (rw o at e) in
          record { before = rw o (ap (λ (x : List (List ℕ)). p ∷ x) inner.before); from = rw o inner.from }
      | Some at ↦ λ o.
          let same : p ∷ ps ≡ q ∷ r = rw o at e in
          record { before = rw o refl; from = rw o (ap (λ (x : List (List ℕ)). x ++ qs) same) }
    ]) refl

stays : (input output : Framing) (ps qs : List (List ℕ)) (v w : Verdict) (q : List ℕ) (r : List (List ℕ)) → from_unspellable output ps ≡ q ∷ r → translation_of input output (ps ++ qs) w ≡ translation_of input output ps v
stays input output ps qs v w q r e =
    let s = stops_within output ps qs q r e in
    rw (s.before, s.from, e) refl

-- ---- the laws

-- the payloads of a longer input
extra : (f : Framing) (max : ℕ) (x z : List ℕ) (at_end : Bool) → (qs : List (List ℕ)) × ((cut f max (x ++ z) at_end).payloads ≡ (cut f max x false).payloads ++ qs)
extra f max x z at_end =
    let c = continues f max x z in
    let last = last_line f (front f max (frames f max (x ++ z)).1) at_end (frames f max (x ++ z)).1 in
    let more = (frames f max ((frames f max x).1 ++ z)).0 in
    (more ++ last, rw (no_last f (front f max (frames f max x).1) (frames f max x).1, append_nil (frames f max x).0, c.payloads) (append_assoc (frames f max x).0 more last))

pub grows : (input output : Framing) (max : ℕ) (x z : List ℕ) (at_end : Bool) → IsPrefix (translation_between input output max x false).text (translation_between input output max (x ++ z) at_end).text
grows input output max x z at_end =
    let e = extra input max x z at_end in
    rw e.1 (text_prefix output (cut input max x false).payloads e.0)

-- an input that is refused at its rest is cut alike whatever comes
same_cut : (f : Framing) (max : ℕ) (x z : List ℕ) (at_end : Bool) (kind : BadKind) → front f max (frames f max x).1 ≡ Refused kind → cut f max (x ++ z) at_end ≡ cut f max x false
same_cut f max x z at_end kind e =
    let c = continues f max x z in
    let refused = front_refused_more f max (frames f max x).1 z kind e in
    let stops = frames_refused f max ((frames f max x).1 ++ z) kind refused in
    let payloads : (frames f max (x ++ z)).0 ≡ (frames f max x).0 = rw stops at c.payloads ∙ append_nil (frames f max x).0 in
    let rest : (frames f max (x ++ z)).1 ≡ (frames f max x).1 ++ z = rw stops at c.rest in
    rw (payloads, rest, refused, e, no_last_refused f kind at_end ((frames f max x).1 ++ z), no_last_refused f kind false (frames f max x).1) refl

pub bad_stays : (input output : Framing) (max : ℕ) (x z : List ℕ) (at_end : Bool) (place : ℕ) (kind : BadKind) → (translation_between input output max x false).verdict ≡ Bad place kind → translation_between input output max (x ++ z) at_end ≡ translation_between input output max x false
bad_stays input output max x z at_end place kind bad = by_rest (from_unspellable output (cut input max x false).payloads) refl
  where
    by_rest : (left : List (List ℕ)) → from_unspellable output (cut input max x false).payloads ≡ left → translation_between input output max (x ++ z) at_end ≡ translation_between input output max x false
    by_rest [] e =
        let said = rw e at bad in
        let refused = bad_is_refused input _ _ _ _ _ said in
        ap (λ c. translation_of input output c.payloads c.verdict) (same_cut input max x z at_end kind refused)
    by_rest (q ∷ r) e =
        let more = extra input max x z at_end in
        rw more.1 (stays input output (cut input max x false).payloads more.0 _ _ q r e)
