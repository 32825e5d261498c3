-- What frames at the front are translated to.
use Rattle.std.proofs.Common.{◌≡◌, ◌≤◌, ◌+◌, ℕ, Bool, List, [], ◌∷◌, ◌++◌, length, take, drop, None, Some, refl, sym, ap, ◌∙◌, append_assoc, add_assoc, zero-add}
use Rattle.std.specs.Prelude.{IsNone}
use Rattle.std.specs.List.{AllByRecursion}
use Rattle.std.proofs.lemmas.List.{length-append, take_at}
use Rattle.frame_model.specs.declared.framing.Framing.{Framing}
use Rattle.frame_model.specs.Spelling.{obstacle, spelling, text}
use Rattle.frame_model.specs.Cut.{Verdict, Open, End, Rest, Bad, Whole, cut, front, moved}
use Rattle.frame_model.specs.Translation.{Translation, spellable, from_unspellable, verdict_at, translation_of, translation_between, behind}
use Rattle.frame_model.proofs.CutLemmas.{cut_whole}
use Rattle.frame_model.proofs.LongestLemmas.{front_again}
use Rattle.frame_fronts.specs.Fronts.{IsFront}

-- what can't be spelt behind a frame lies behind that frame's bytes
verdict_behind : (input output : Framing) (p : List ℕ) (payloads others : List (List ℕ)) (v : Verdict)
    → verdict_at output (length (text input (p ∷ payloads))) others (moved (length (spelling input p)) v) ≡ moved (length (spelling input p)) (verdict_at output (length (text input payloads)) others v)
verdict_behind input output p payloads [] v = refl
verdict_behind input output p payloads (q ∷ others) v = rw (length-append (spelling input p) (text input payloads)) refl

translated_behind : (input output : Framing) (p : List ℕ) (payloads : List (List ℕ)) (v : Verdict) → IsNone (obstacle output p)
    → translation_of input output (p ∷ payloads) (moved (length (spelling input p)) v) ≡ behind (spelling output p) (length (spelling input p)) (translation_of input output payloads v)
translated_behind input output p payloads v spelt =
    (elim (obstacle output p) as (λ o. obstacle output p ≡ o → translation_of input output (p ∷ payloads) (moved (length (spelling input p)) v) ≡ behind (spelling output p) (length (spelling input p)) (translation_of input output payloads v)) [
      | None ↦ λ e. rw (e, verdict_behind input output p (spellable output payloads) (from_unspellable output payloads) v) refl
      | Some at ↦ λ e. let other = rw e at spelt in absurd cc
    ]) refl

moved_moved : (m n : ℕ) (v : Verdict) → moved m (moved n v) ≡ moved (m + n) v
moved_moved m n Open = refl
moved_moved m n End = refl
moved_moved m n (Rest place) = ap (λ (k : ℕ). Rest k) (sym (add_assoc m n place))
moved_moved m n (Bad place kind) = ap (λ (k : ℕ). Bad k kind) (sym (add_assoc m n place))

moved_zero : (v : Verdict) → moved 0 v ≡ v
moved_zero Open = refl
moved_zero End = refl
moved_zero (Rest place) = ap (λ (k : ℕ). Rest k) (zero-add place)
moved_zero (Bad place kind) = ap (λ (k : ℕ). Bad k kind) (zero-add place)

behind_behind : (xs ys : List ℕ) (m n : ℕ) (t : Translation) → behind xs m (behind ys n t) ≡ behind (xs ++ ys) (m + n) t
behind_behind xs ys m n t = rw (moved_moved m n t.verdict) (ap (λ (text : List ℕ). record { text = text; verdict = moved (m + n) t.verdict }) (sym (append_assoc xs ys t.text)))

behind_nothing : (t : Translation) → behind [] 0 t ≡ t
behind_nothing t = ap (λ (v : Verdict). record { text = t.text; verdict = v }) (moved_zero t.verdict)

frames_translated : (input output : Framing) (max : ℕ) (at_end : Bool) (payloads : List (List ℕ)) (rest : List ℕ)
    → AllByRecursion (λ p. (length p ≤ max) × IsNone (obstacle input p) × IsNone (obstacle output p)) payloads
    → translation_between input output max (text input payloads ++ rest) at_end ≡ behind (text output payloads) (length (text input payloads)) (translation_between input output max rest at_end)
frames_translated input output max at_end [] rest each = sym (behind_nothing (translation_between input output max rest at_end))
frames_translated input output max at_end (p ∷ ps) rest each =
    let one = spelling input p in
    let more = text input ps ++ rest in
    let whole : front input max (one ++ more) ≡ Whole p more = front_again input max p more each.0.0 each.0.1 in
    let then = cut input max more at_end in
    let first : translation_between input output max (one ++ more) at_end ≡ behind (spelling output p) (length one) (translation_between input output max more at_end) =
    ap (λ c. translation_of input output c.payloads c.verdict) (cut_whole input max (one ++ more) p more at_end whole)
    ∙ translated_behind input output p then.payloads then.verdict each.0.2 in
    ap (λ (t : List ℕ). translation_between input output max t at_end) (append_assoc one (text input ps) rest) ∙ first
    ∙ ap (λ (t : Translation). behind (spelling output p) (length one) t) (frames_translated input output max at_end ps rest each.1)
    ∙ behind_behind (spelling output p) (text output ps) (length one) (length (text input ps)) (translation_between input output max rest at_end)
    ∙ ap (λ (n : ℕ). behind (text output (p ∷ ps)) n (translation_between input output max rest at_end)) (sym (length-append one (text input ps)))

pub front_goes_on : (input output : Framing) (max : ℕ) (x : List ℕ) (at_end : Bool) (len frames : ℕ) (payloads : List (List ℕ)) → IsFront input output max x len frames payloads
    → translation_between input output max x at_end ≡ behind (text output payloads) len (translation_between input output max (drop len x) at_end)
front_goes_on input output max x at_end len frames payloads is =
    ap (λ (t : List ℕ). translation_between input output max t at_end) is.parts ∙ frames_translated input output max at_end payloads (drop len x) is.each
    ∙ ap (λ (n : ℕ). behind (text output payloads) n (translation_between input output max (drop len x) at_end)) (sym is.size)

pub front_itself : (input output : Framing) (max : ℕ) (x : List ℕ) (at_end : Bool) (len frames : ℕ) (payloads : List (List ℕ)) → input ≡ output → IsFront input output max x len frames payloads
    → translation_between input output max x at_end ≡ behind (take len x) len (translation_between input output max (drop len x) at_end)
front_itself input output max x at_end len frames payloads same is =
    let itself : take len x ≡ text input payloads = ap (λ (t : List ℕ). take len t) is.parts ∙ take_at (text input payloads) (drop len x) len (sym is.size) in
    let whole : text output payloads ≡ take len x = ap (λ (f : Framing). text f payloads) (sym same) ∙ sym itself in
    front_goes_on input output max x at_end len frames payloads is ∙ ap (λ (t : List ℕ). behind t len (translation_between input output max (drop len x) at_end)) whole
