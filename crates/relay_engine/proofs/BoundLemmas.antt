-- How many frames bytes have at most, and how much text in the output: each frame has a byte, and at most five for each of them where it is spelt anew.
use Rattle.std.proofs.Common.{◌≡◌, ◌≤◌, ◌+◌, ◌*◌, ◌-◌, drop, ℕ, zero, suc, Bool, true, false, cond, List, [], ◌∷◌, ◌++◌, length, refl, sym, ap, ◌∙◌, subst, append-nil, arith}
use Rattle.std.specs.Prelude.{is_none}
use Rattle.std.proofs.lemmas.List.{length-append, length-drop}
use mathlib.Core.List.{IsPrefix}
use Rattle.frame_model.specs.declared.framing.Framing.{Framing}
use Rattle.frame_grammar.specs.declared.job.Job.{Job}
use Rattle.frame_model.specs.Heads.{Layout, Counted, Lines, layout}
use Rattle.frame_model.specs.Spelling.{head_of, obstacle, spelling, tail_of, text}
use Rattle.frame_model.specs.Cut.{Cutting, Front, Whole, Refused, Partial, cut, front, last_line, last_line_in}
use Rattle.frame_model.specs.Translation.{spellable}
use Rattle.frame_grammar.specs.Job.{translation}
use Rattle.frame_model.proofs.CutLemmas.{cut_partial, cut_refused, cut_whole}
use Rattle.frame_model.proofs.FrameLemmas.{around, frame_at, spelling_len}
use Rattle.frame_model.proofs.FrontLemmas.{front_shorter}
use Rattle.relay_model.specs.Run.{payloads_of}
use Rattle.relay_engine.specs.Frames.{Passes}
use Rattle.relay_engine.proofs.FrameLemmas.{may_stop}

-- These payloads are at most so many as the bytes, and their text is at most five times as long.
abbrev AreBounded : Framing → List (List ℕ) → List ℕ → Type 0
AreBounded output payloads x = (length payloads ≤ length x) × (length (text output payloads) ≤ 5 * length x)

last_bounded_in : (l : Layout) (output : Framing) (at_end : Bool) (x : List ℕ) → AreBounded output (last_line_in l Partial at_end x) x
last_bounded_in Lines output true (b ∷ rest) = let few = around output (length (b ∷ rest)) in (omega arith, omega (arith, spelling_len output (b ∷ rest), few.1, length-append (spelling output (b ∷ rest)) []))
last_bounded_in Lines output true [] = (omega arith, omega arith)
last_bounded_in Lines output false x = (omega arith, omega arith)
last_bounded_in (Counted heads) output at_end x = (omega arith, omega arith)

last_bounded : (f output : Framing) (at_end : Bool) (x : List ℕ) → AreBounded output (last_line f Partial at_end x) x
last_bounded f = last_bounded_in (layout f)

by_front : (input output : Framing) (max : ℕ) (x : List ℕ) (at_end : Bool) → ((p more : List ℕ) → front input max x ≡ Whole p more → AreBounded output (cut input max more at_end).payloads more) → (b : Front) → front input max x ≡ b → AreBounded output (cut input max x at_end).payloads x
by_front input output max x at_end behind (Refused kind) is = subst (λ (c : Cutting). AreBounded output c.payloads x) (sym (cut_refused input max x kind at_end is)) (omega arith, omega arith)
by_front input output max x at_end behind Partial is = subst (λ (c : Cutting). AreBounded output c.payloads x) (sym (cut_partial input max x at_end is)) (last_bounded input output at_end x)
by_front input output max x at_end behind (Whole p more) is =
    let lies = frame_at input max x p more is in
    let rest = behind p more is in
    let few = around output (length p) in
    let size : length more ≡ length x - (length (head_of input (length p)) + length p + length (tail_of input)) = sym (ap length lies.rest) ∙ length-drop (length (head_of input (length p)) + length p + length (tail_of input)) x in
    subst (λ (c : Cutting). AreBounded output c.payloads x) (sym (cut_whole input max x p more at_end is)) (
      omega (arith, rest.0, front_shorter input max x p more is),
      omega (arith, rest.1, size, lies.fits, lies.some, spelling_len output p, few.1, length-append (spelling output p) (text output (cut input max more at_end).payloads)),
    )

cut_bounded : (most : ℕ) (input output : Framing) (max : ℕ) (x : List ℕ) (at_end : Bool) → length x ≤ most → AreBounded output (cut input max x at_end).payloads x
cut_bounded zero input output max x at_end within = by_front input output max x at_end (λ p more is. absurd (omega (arith, within, front_shorter input max x p more is))) (front input max x) refl
cut_bounded (suc most) input output max x at_end within =
    by_front input output max x at_end (λ p more is. cut_bounded most input output max more at_end (omega (arith, within, front_shorter input max x p more is))) (front input max x) refl

spellable_bounded : (output : Framing) (payloads : List (List ℕ)) (x : List ℕ) → AreBounded output payloads x → AreBounded output (spellable output payloads) x
spellable_bounded output payloads x bounded = let fewer = spelt output payloads in (omega (arith, fewer.0, bounded.0), omega (arith, fewer.1, bounded.1))
  where
    one : (output : Framing) (p : List ℕ) (payloads : List (List ℕ)) (b : Bool) → (length (spellable output payloads) ≤ length payloads) × (length (text output (spellable output payloads)) ≤ length (text output payloads))
        → (length (cond b (p ∷ spellable output payloads) []) ≤ length (p ∷ payloads)) × (length (text output (cond b (p ∷ spellable output payloads) [])) ≤ length (text output (p ∷ payloads)))
    one output p payloads true rest = (omega (arith, rest.0), omega (arith, rest.1, length-append (spelling output p) (text output (spellable output payloads)), length-append (spelling output p) (text output payloads)))
    one output p payloads false rest = (omega arith, omega arith)

    spelt : (output : Framing) (payloads : List (List ℕ)) → (length (spellable output payloads) ≤ length payloads) × (length (text output (spellable output payloads)) ≤ length (text output payloads))
    spelt output [] = (omega arith, omega arith)
    spelt output (p ∷ payloads) = one output p payloads (is_none (obstacle output p)) (spelt output payloads)

bounded : (job : Job) (x : List ℕ) (at_end : Bool) → AreBounded job.output (payloads_of job x at_end) x
bounded job x at_end = spellable_bounded job.output (cut job.input job.max x at_end).payloads x (cut_bounded (length x) job.input job.output job.max x at_end (omega arith))

pub text_bounded : (job : Job) (x : List ℕ) (at_end : Bool) → length (translation job x at_end).text ≤ 5 * length x
text_bounded job x at_end = (bounded job x at_end).1

-- ---- the frames at a front

pub listed_all : (job : Job) (x text : List ℕ) (at_end : Bool) (n i : ℕ) → (passes : Passes job x at_end n i text) → payloads_of job x at_end ≡ passes.payloads ++ payloads_of job (drop n x) at_end
listed_all job x text at_end n i passes =
    ap (λ (t : List ℕ). payloads_of job t at_end) (sym (append-nil x)) ∙ passes.listed [] at_end (may_stop at_end)
    ∙ ap (λ (t : List ℕ). passes.payloads ++ payloads_of job t at_end) (append-nil (drop n x))

pub passes_few : (job : Job) (x text : List ℕ) (at_end : Bool) (n i : ℕ) → Passes job x at_end n i text → i ≤ length x
passes_few job x text at_end n i passes =
    omega (arith, passes.counted, ap length (listed_all job x text at_end n i passes), length-append passes.payloads (payloads_of job (drop n x) at_end), (bounded job x at_end).0)

pub front_bounded : (job : Job) (x : List ℕ) (at_end : Bool) (front : List ℕ) → IsPrefix front (translation job x at_end).text → length front ≤ 5 * length x
front_bounded job x at_end front is = omega (arith, ap length is.1, length-append front is.0, text_bounded job x at_end)
