-- How many frames are whole in what was written.
use Rattle.std.proofs.Common.{◌≡◌, ◌<◌, ◌≤◌, ◌+◌, ◌-◌, ℕ, zero, suc, Bool, true, false, List, [], ◌∷◌, ◌++◌, length, take, drop, refl, sym, ap, ◌∙◌, append-nil, append_assoc, arith, inl, inr}
use Rattle.std.specs.Prelude.{nat_eq, Some, None}
use Rattle.std.specs.List.{starts_with}
use Rattle.std.proofs.lemmas.Bool.{cases_lt}
use Rattle.std.proofs.lemmas.Bool.Decides.{Decides-eqb}
use Rattle.std.proofs.lemmas.Slice.Eq.{starts_is}
use Rattle.std.proofs.lemmas.Grind.{flat_map-append}
use Rattle.std.proofs.lemmas.List.{length-append, take-append-le, take_all}
use Rattle.std.proofs.Math.Seq.{take-append-add, take-append_seam}
use mathlib.Core.List.{IsPrefix}
use Rattle.frame_model.specs.declared.framing.Framing.{Framing}
use Rattle.frame_grammar.specs.declared.job.Job.{Job}
use Rattle.frame_model.specs.Spelling.{obstacle, spelling, text}
use Rattle.frame_model.specs.Cut.{front, frames, last_line}
use Rattle.frame_model.specs.Translation.{spellable}
use Rattle.frame_grammar.specs.Job.{translation}
use Rattle.relay_model.specs.Ending.{frames_written}
use Rattle.frame_model.proofs.FrameLemmas.{spelling_some}
use Rattle.frame_model.proofs.FramesLemmas.{continues}
use Rattle.frame_model.proofs.TranslationLemmas.{no_last}
use Rattle.relay_model.specs.Run.{frames_in, payloads_of}

-- a text stands at the front of what begins with it
begins : (s p rest : List ℕ) → s ≡ p ++ rest → starts_with nat_eq s p ≡ true
begins s p rest is = (starts_is Decides-eqb s p (starts_with nat_eq s p) refl).1 rest is

-- and not at the front of what is shorter
too_short : (s p : List ℕ) → length s < length p → starts_with nat_eq s p ≡ false
too_short s p short =
    (elim (starts_with nat_eq s p) as (λ (b : Bool). starts_with nat_eq s p ≡ b → starts_with nat_eq s p ≡ false) [
      | true ↦ λ is.
          let whole = (starts_is Decides-eqb s p (starts_with nat_eq s p) refl).0 is in
          absurd (omega (arith, short, ap length whole, length-append p (drop (length p) s)))
      | false ↦ λ is. is
    ]) refl

-- so many are whole, and no more
frames_down : (output : Framing) (payloads : List (List ℕ)) (written rest : List ℕ) (n most : ℕ) → n ≤ most → written ≡ text output (take n payloads) ++ rest
    → ((m : ℕ) → n < m → length written < length (text output (take m payloads))) → frames_written output payloads written most ≡ n
frames_down output payloads written rest n zero within is shorter = omega (arith, within)
frames_down output payloads written rest n (suc most) within is shorter = elim (cases_lt n (suc most)) [
  | inl lt ↦ rw (too_short written (text output (take (suc most) payloads)) (shorter (suc most) lt)) (frames_down output payloads written rest n most (omega (arith, lt)) is shorter)
  | inr ge ↦
      let same : suc most ≡ n = omega (arith, ge, within) in
      rw (begins written (text output (take (suc most) payloads)) rest (is ∙ ap (λ (k : ℕ). text output (take k payloads) ++ rest) (sym same))) same
]

-- all of them are whole
pub frames_all : (output : Framing) (payloads : List (List ℕ)) → frames_written output payloads (text output payloads) (length payloads) ≡ length payloads
frames_all output payloads =
    each (length payloads) (sym (append-nil (text output payloads)) ∙ ap (λ (ps : List (List ℕ)). text output ps ++ []) (sym (take_all (length payloads) payloads (omega arith))))
  where
    each : (n : ℕ) → text output payloads ≡ text output (take n payloads) ++ [] → frames_written output payloads (text output payloads) n ≡ n
    each zero is = refl
    each (suc n) is = rw (begins (text output payloads) (text output (take (suc n) payloads)) [] is) refl

-- one was broken off
pub frames_before : (output : Framing) (payloads others : List (List ℕ)) (next part : List ℕ) → length part < length (spelling output next)
    → frames_written output (payloads ++ next ∷ others) (text output payloads ++ part) (length (payloads ++ next ∷ others)) ≡ length payloads
frames_before output payloads others next part short =
    let n = length payloads in
    let all = payloads ++ next ∷ others in
    let written = text output payloads ++ part in
    frames_down output all written part n (length all) (omega (arith, length-append payloads (next ∷ others))) (ap (λ (ps : List (List ℕ)). text output ps ++ part) (sym (take-append_seam payloads (next ∷ others)))) (λ m more. longer m more)
  where
    longer : (m : ℕ) → length payloads < m → length (text output payloads ++ part) < length (text output (take m (payloads ++ next ∷ others)))
    longer m more =
        let k = m - length payloads - 1 in
        let at : m ≡ length payloads + suc k = omega (arith, more) in
        let front : take m (payloads ++ next ∷ others) ≡ payloads ++ next ∷ take k others =
        ap (λ (i : ℕ). take i (payloads ++ next ∷ others)) at ∙ take-append-add payloads (next ∷ others) (suc k) in
        let parts : text output (take m (payloads ++ next ∷ others)) ≡ text output payloads ++ (spelling output next ++ text output (take k others)) =
        ap (λ (ps : List (List ℕ)). text output ps) front ∙ flat_map-append (spelling output) payloads (next ∷ take k others) in
        omega (arith, short, ap length parts, length-append (text output payloads) part, length-append (text output payloads) (spelling output next ++ text output (take k others)), length-append (spelling output next) (text output (take k others)))

-- ---- in a longer input

-- the payloads of more that can be spelt begin with those of less
spellable_more : (output : Framing) (ps qs : List (List ℕ)) → (more : List (List ℕ)) × (spellable output (ps ++ qs) ≡ spellable output ps ++ more)
spellable_more output [] qs = (spellable output qs, refl)
spellable_more output (p ∷ ps) qs =
    (elim (obstacle output p) as (λ o. obstacle output p ≡ o → (more : List (List ℕ)) × (spellable output ((p ∷ ps) ++ qs) ≡ spellable output (p ∷ ps) ++ more)) [
      | None ↦ λ e.
          let rest = spellable_more output ps qs in
          rw e (rest.0, ap (λ (x : List (List ℕ)). p ∷ x) rest.1)
      | Some at ↦ λ e. rw e ([], refl)
    ]) refl

payloads_more : (job : Job) (x z : List ℕ) (b : Bool) → (more : List (List ℕ)) × (payloads_of job (x ++ z) b ≡ payloads_of job x false ++ more)
payloads_more job x z b =
    let before = (frames job.input job.max x).0 in
    let behind = (frames job.input job.max ((frames job.input job.max x).1 ++ z)).0 in
    let last = last_line job.input (front job.input job.max (frames job.input job.max (x ++ z)).1) b (frames job.input job.max (x ++ z)).1 in
    rw (no_last job.input (front job.input job.max (frames job.input job.max x).1) (frames job.input job.max x).1, append-nil before, (continues job.input job.max x z).payloads, append_assoc before behind last) (spellable_more job.output before (behind ++ last))

-- what is written of some payloads has as many whole frames, whatever payloads are behind them
frames_of_front : (output : Framing) (ps more : List (List ℕ)) (written : List ℕ) → IsPrefix written (text output ps) → frames_written output (ps ++ more) written (length (ps ++ more)) ≡ frames_written output ps written (length ps)
frames_of_front output ps more written is_front = down (length (ps ++ more)) (omega (arith, length-append ps more)) (omega arith) ∙ same (length ps) (omega arith)
  where
    longer : (others : List (List ℕ)) (m : ℕ) → length ps < m → m ≤ length (ps ++ others) → length written < length (text output (take m (ps ++ others)))
    longer [] m more within = absurd (omega (arith, more, within, length-append ps []))
    longer (q ∷ others) m more within =
        let k = m - length ps - 1 in
        let at : m ≡ length ps + suc k = omega (arith, more) in
        let front_is : take m (ps ++ q ∷ others) ≡ ps ++ q ∷ take k others =
        ap (λ (i : ℕ). take i (ps ++ q ∷ others)) at ∙ take-append-add ps (q ∷ others) (suc k) in
        let parts : text output (take m (ps ++ q ∷ others)) ≡ text output ps ++ (spelling output q ++ text output (take k others)) =
        ap (λ (xs : List (List ℕ)). text output xs) front_is ∙ flat_map-append (spelling output) ps (q ∷ take k others) in
        omega (arith, spelling_some output q, ap length is_front.1, length-append written is_front.0, ap length parts, length-append (text output ps) (spelling output q ++ text output (take k others)), length-append (spelling output q) (text output (take k others)))

    down : (m : ℕ) → length ps ≤ m → m ≤ length (ps ++ more) → frames_written output (ps ++ more) written m ≡ frames_written output (ps ++ more) written (length ps)
    down zero least within =
        let none : 0 ≡ length ps = omega (arith, least) in
        ap (λ (n : ℕ). frames_written output (ps ++ more) written n) none
    down (suc m) least within = elim (cases_lt (length ps) (suc m)) [
      | inl lt ↦ rw (too_short written (text output (take (suc m) (ps ++ more))) (longer more (suc m) lt within)) (down m (omega (arith, lt)) (omega (arith, within)))
      | inr ge ↦
          let last : suc m ≡ length ps = omega (arith, ge, least) in
          ap (λ (n : ℕ). frames_written output (ps ++ more) written n) last
    ]

    same : (m : ℕ) → m ≤ length ps → frames_written output (ps ++ more) written m ≡ frames_written output ps written m
    same zero within = refl
    same (suc m) within = rw (take-append-le (suc m) ps more within, same m (omega (arith, within))) refl

-- a front of what is to be written of an input has as many whole frames once more has come
pub frames_of_more : (job : Job) (x z text : List ℕ) (b : Bool) → IsPrefix text (translation job x false).text → frames_in job (x ++ z) b text ≡ frames_in job x false text
frames_of_more job x z text b front =
    let more = payloads_more job x z b in
    rw more.1 (frames_of_front job.output (payloads_of job x false) more.0 text front)
