-- Lines that stay lines.
use Rattle.std.proofs.Common.{◌≡◌, ◌≢◌, ◌<◌, ◌≤◌, ℕ, Bool, true, false, nat_lt, nat_le, ◌&&◌, List, [], ◌∷◌, length, take, get_or, refl, sym, ap, subst, ◌∙◌, arith, inl, inr}
use Rattle.std.specs.Prelude.{IsNone, position, slice_index, slice_range}
use Rattle.std.proofs.lemmas.Bool.{eqb-false, ltb-false, leb-false, and_cases}
use Rattle.std.proofs.lemmas.List.{append-nil, get_or-take, length-take, take_all}
use Rattle.std.proofs.lemmas.List.Sums.{fails_before_first}
use Rattle.frame_model.specs.declared.framing.Framing.{Framing}
use Rattle.frame_model.specs.declared.framing.Framing.TheVariants.{Line}
use Rattle.frame_grammar.specs.declared.job.Job.{Job}
use Rattle.frame_model.specs.Cut.{Whole, Refused, Partial, cut, front, last_line, line_front}
use Rattle.frame_model.specs.Spelling.{is_line_feed, spelling}
use Rattle.frame_model.proofs.CutLemmas.{cut_partial, cut_refused, cut_whole}
use Rattle.frame_model.proofs.FrontLemmas.{chosen, line_is, line_len, line_len_le}
use Rattle.frame_model.proofs.SpellingLemmas.{spelt}
use Rattle.frame_grammar.specs.Answers.{BeginsWithFrame}
use Rattle.relay_engine.specs.Frames.{IsFirst}
use Rattle.relay_engine.proofs.FrameLemmas.{is_first, may_stop}

has_none : (p : List ℕ) → ((k : ℕ) → k < length p → slice_index p k ≢ 10) → IsNone (position is_line_feed p)
has_none p each = (spelt Line p (spelling Line p) (each, refl)).0

pub before_line_feed : (x : List ℕ) (n : ℕ) → n ≤ length x → n ≤ line_len x → IsNone (position is_line_feed (take n x))
before_line_feed x n within before =
    has_none (take n x) (λ k lt same.
    let below : k < n = omega (arith, lt, length-take n x) in
    eqb-false (get_or x k 0) 10 (fails_before_first is_line_feed x k 0 (omega (arith, below, before))) (sym (get_or-take n x k 0 below) ∙ same))

unended : (max : ℕ) (x : List ℕ) → line_front max x ≡ Partial → length x ≤ line_len x
unended max x e =
    elim (chosen (nat_lt (line_len x) (length x) && nat_le (line_len x) max) _ _ _ e) [
      | inl a ↦ absurd cc
      | inr a ↦ elim (chosen (nat_lt max (length x)) _ _ _ a.1) [
        | inl b ↦ absurd cc
        | inr b ↦ elim (and_cases (nat_lt (line_len x) (length x)) (nat_le (line_len x) max) a.0) [
          | inl c ↦ omega (arith, ltb-false (line_len x) (length x) c)
          | inr c ↦ omega (arith, leb-false (line_len x) max c, ltb-false max (length x) b.0)
        ]
      ]
    ]

last_line_is : (at_end : Bool) (x p : List ℕ) (others : List (List ℕ)) → last_line Line Partial at_end x ≡ p ∷ others → x ≡ p
last_line_is true (b ∷ x) p others e = ap (λ (l : List (List ℕ)). get_or l 0 []) e
last_line_is true [] p others e = absurd cc
last_line_is false x p others e = absurd cc

-- what is cut first of lines has no line feed
line_has_none : (max : ℕ) (x : List ℕ) (at_end : Bool) (p : List ℕ) (others : List (List ℕ)) → (cut Line max x at_end).payloads ≡ p ∷ others → IsNone (position is_line_feed p)
line_has_none max x at_end p others is =
    (elim (front Line max x) as (λ v. front Line max x ≡ v → IsNone (position is_line_feed p)) [
      | Whole q more ↦ λ e.
          let l = line_is max x q more e in
          let first : q ≡ p = ap (λ (l : List (List ℕ)). get_or l 0 []) (sym (ap (λ c. c.payloads) (cut_whole Line max x q more at_end e)) ∙ is) in
          subst (λ (o : List ℕ). IsNone (position is_line_feed o)) (l.payload ∙ first) (before_line_feed x (line_len x) (line_len_le x) (omega arith))
      | Refused kind ↦ λ e. let none : [] ≡ p ∷ others = sym (ap (λ c. c.payloads) (cut_refused Line max x kind at_end e)) ∙ is in absurd cc
      | Partial ↦ λ e.
          let last : x ≡ p = last_line_is at_end x p others (sym (ap (λ c. c.payloads) (cut_partial Line max x at_end e)) ∙ is) in
          subst (λ (o : List ℕ). IsNone (position is_line_feed o)) (take_all (length x) x (omega arith) ∙ last) (before_line_feed x (length x) (omega arith) (unended max x e))
    ]) refl

-- a line can be spelt as a line
pub line_first : (job : Job) (x : List ℕ) (at_end : Bool) (from to n : ℕ) (p : List ℕ) → p ≡ slice_range x from to → BeginsWithFrame job.input job.max x at_end from to n → (job.input ≡ Line) × (job.output ≡ Line) → IsFirst job x at_end p n
line_first job x at_end from to n p is frame lines =
    let line = subst (λ (f : Framing). BeginsWithFrame f job.max x at_end from to n) lines.0 frame in
    let first = ap (λ (t : List ℕ). (cut Line job.max t at_end).payloads) (sym (append-nil x)) ∙ ap (λ c. c.payloads) (line.goes_on [] at_end (may_stop at_end)) in
    let none : IsNone (position is_line_feed p) = rw is (line_has_none job.max x at_end (slice_range x from to) _ first) in
    is_first job x at_end from to n p is frame (rw lines.1 none)
