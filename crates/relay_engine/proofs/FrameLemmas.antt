-- How a translation goes on behind the frames that were passed over.
use Rattle.std.proofs.Common.{◌≡◌, ◌+◌, ◌-◌, ◌^◌, cond, ℕ, Bool, true, false, List, [], ◌∷◌, ◌++◌, length, drop, Option, Some, None, Result, Ok, Err, refl, sym, ap, ◌∙◌, append_assoc, arith, inl, inr, ◌⊎◌, add_assoc, zero-add}
use Rattle.std.specs.Prelude.{IsNone, is_none, min, slice_range, unwrap_or, MatchOption}
use Rattle.std.proofs.lemmas.Grind.{flat_map-append}
use Rattle.std.proofs.lemmas.List.{append-nil, length-append, length-drop, drop-append-le, drop-drop}
use Rattle.std.proofs.Math.Seq.{drop-length}
use Rattle.frame_model.specs.declared.framing.Framing.{Framing}
use Rattle.frame_model.specs.declared.framing.BadKind.TheVariants.{Unspellable}
use Rattle.frame_grammar.specs.declared.job.Job.{Job}
use Rattle.frame_model.specs.Spelling.{obstacle, spelling, text}
use Rattle.frame_model.specs.Cut.{Verdict, Open, End, Rest, Bad, cut, moved, MayCome}
use Rattle.frame_model.specs.Translation.{Translation, spellable, from_unspellable, verdict_at, translation_of, behind}
use Rattle.frame_grammar.specs.Job.{translation}
use Rattle.frame_model.proofs.CutLemmas.{empty_ended}
use Rattle.frame_grammar.specs.Answers.{BeginsWithFrame}
use Rattle.relay_model.specs.Run.{payloads_of}
use Rattle.relay_engine.specs.Frames.{IsFirst, Passes, capped}

-- ---- one frame

-- what can't be spelt behind a frame lies behind that frame's bytes
verdict_behind : (input output : Framing) (p : List ℕ) (payloads others : List (List ℕ)) (v : Verdict) (n : ℕ) → (n ≡ length (spelling input p)) ⊎ (others ≡ [])
    → verdict_at output (length (text input (p ∷ payloads))) others (moved n v) ≡ moved n (verdict_at output (length (text input payloads)) others v)
verdict_behind input output p payloads [] v n sized = refl
verdict_behind input output p payloads (q ∷ others) v n (inl size) = rw (size, length-append (spelling input p) (text input payloads)) refl
verdict_behind input output p payloads (q ∷ others) v n (inr none) = absurd cc

translated_behind : (input output : Framing) (p : List ℕ) (payloads : List (List ℕ)) (v : Verdict) (n : ℕ) → IsNone (obstacle output p) → (n ≡ length (spelling input p)) ⊎ (payloads ≡ [])
    → translation_of input output (p ∷ payloads) (moved n v) ≡ behind (spelling output p) n (translation_of input output payloads v)
translated_behind input output p payloads v n spelt sized =
    let left : (n ≡ length (spelling input p)) ⊎ (from_unspellable output payloads ≡ []) = elim sized [ inl size ↦ inl size | inr none ↦ inr (rw none refl) ] in
    (elim (obstacle output p) as (λ o. obstacle output p ≡ o → translation_of input output (p ∷ payloads) (moved n v) ≡ behind (spelling output p) n (translation_of input output payloads v)) [
      | None ↦ λ e. rw (e, verdict_behind input output p (spellable output payloads) (from_unspellable output payloads) v n left) refl
      | Some at ↦ λ e. let no = rw e at spelt in absurd cc
    ]) refl

nothing_cut : (f : Framing) (max : ℕ) → (cut f max [] true).payloads ≡ []
nothing_cut f max = ap (λ c. c.payloads) (empty_ended f max)

-- at the end of the input, what ends with it has nothing behind it
nothing_behind : (f : Framing) (max : ℕ) (x : List ℕ) (n : ℕ) (at_end : Bool) → at_end ≡ true → n ≡ length x → (z : List ℕ) (b : Bool) → MayCome at_end z b → (cut f max (drop n x ++ z) b).payloads ≡ []
nothing_behind f max x n at_end end size z b may =
    let last : (z ≡ []) × (b ≡ true) = rw end at may in
    let none : drop n x ++ z ≡ [] = rw (size, drop-length x, last.0) refl in
    rw (none, last.1) (nothing_cut f max)

pub frame_goes_on : (job : Job) (x : List ℕ) (at_end : Bool) (from to n : ℕ) → BeginsWithFrame job.input job.max x at_end from to n → IsNone (obstacle job.output (slice_range x from to))
    → (z : List ℕ) (b : Bool) → MayCome at_end z b → translation job (x ++ z) b ≡ behind (spelling job.output (slice_range x from to)) n (translation job (drop n x ++ z) b)
frame_goes_on job x at_end from to n frame spelt z b may =
    let p = slice_range x from to in
    let rest = cut job.input job.max (drop n x ++ z) b in
    let sized : (n ≡ length (spelling job.input p)) ⊎ (rest.payloads ≡ []) = elim frame.sized [
      | inl size ↦ inl size
      | inr last ↦ inr (nothing_behind job.input job.max x n at_end last.0 last.1 z b may)
    ] in
    ap (λ c. translation_of job.input job.output c.payloads c.verdict) (frame.goes_on z b may) ∙ translated_behind job.input job.output p rest.payloads rest.verdict n spelt sized

-- nothing need come
pub may_stop : (at_end : Bool) → MayCome at_end [] at_end
may_stop false = tt
may_stop true = (refl, refl)

cannot_spell : (input output : Framing) (p : List ℕ) (payloads : List (List ℕ)) (v : Verdict) (at : ℕ) → obstacle output p ≡ Some at
    → translation_of input output (p ∷ payloads) v ≡ record { text = []; verdict = Bad 0 (Unspellable at) }
cannot_spell input output p payloads v at e = rw e (ap (λ (o : Option ℕ). record { text = []; verdict = Bad 0 (Unspellable (unwrap_or o 0)) }) e)

pub unspellable_stops : (job : Job) (x : List ℕ) (at_end : Bool) (from to n at : ℕ) → BeginsWithFrame job.input job.max x at_end from to n → obstacle job.output (slice_range x from to) ≡ Some at
    → translation job x at_end ≡ record { text = []; verdict = Bad 0 (Unspellable at) }
unspellable_stops job x at_end from to n at frame e =
    let p = slice_range x from to in
    let rest = cut job.input job.max (drop n x ++ []) at_end in
    let whole : translation job (x ++ []) at_end ≡ translation_of job.input job.output (p ∷ rest.payloads) (moved n rest.verdict) =
    ap (λ c. translation_of job.input job.output c.payloads c.verdict) (frame.goes_on [] at_end (may_stop at_end)) in
    ap (λ t. translation job t at_end) (sym (append-nil x)) ∙ whole ∙ cannot_spell job.input job.output p rest.payloads (moved n rest.verdict) at e

-- ---- which payloads are written

first_of : (o : Option ℕ) (p : List ℕ) (ps : List (List ℕ)) → IsNone o → cond (is_none o) (p ∷ ps) [] ≡ p ∷ ps
first_of None p ps none = refl
first_of (Some at) p ps none = absurd cc

pub frame_listed : (job : Job) (x : List ℕ) (at_end : Bool) (from to n : ℕ) → BeginsWithFrame job.input job.max x at_end from to n → IsNone (obstacle job.output (slice_range x from to))
    → (z : List ℕ) (b : Bool) → MayCome at_end z b → payloads_of job (x ++ z) b ≡ slice_range x from to ∷ payloads_of job (drop n x ++ z) b
frame_listed job x at_end from to n frame spelt z b may =
    let p = slice_range x from to in
    ap (λ c. spellable job.output c.payloads) (frame.goes_on z b may) ∙ first_of (obstacle job.output p) p (payloads_of job (drop n x ++ z) b) spelt

pub listed_first : (job : Job) (x : List ℕ) (at_end : Bool) (from to n : ℕ) → BeginsWithFrame job.input job.max x at_end from to n → IsNone (obstacle job.output (slice_range x from to))
    → payloads_of job x at_end ≡ slice_range x from to ∷ payloads_of job (drop n x ++ []) at_end
listed_first job x at_end from to n frame spelt =
    ap (λ t. payloads_of job t at_end) (sym (append-nil x)) ∙ frame_listed job x at_end from to n frame spelt [] at_end (may_stop at_end)

-- ---- one frame after the other

moved_moved : (m n : ℕ) (v : Verdict) → moved m (moved n v) ≡ moved (m + n) v
moved_moved m n Open = refl
moved_moved m n End = refl
moved_moved m n (Rest place) = ap (λ (k : ℕ). Rest k) (sym (add_assoc m n place))
moved_moved m n (Bad place kind) = ap (λ (k : ℕ). Bad k kind) (sym (add_assoc m n place))

pub moved_zero : (v : Verdict) → moved 0 v ≡ v
moved_zero Open = refl
moved_zero End = refl
moved_zero (Rest place) = ap (λ (k : ℕ). Rest k) (zero-add place)
moved_zero (Bad place kind) = ap (λ (k : ℕ). Bad k kind) (zero-add place)

pub behind_behind : (xs ys : List ℕ) (m n : ℕ) (t : Translation) → behind xs m (behind ys n t) ≡ behind (xs ++ ys) (m + n) t
behind_behind xs ys m n t = rw (moved_moved m n t.verdict) (ap (λ (text : List ℕ). record { text = text; verdict = moved (m + n) t.verdict }) (sym (append_assoc xs ys t.text)))

pub passes_nothing : (job : Job) (x : List ℕ) (at_end : Bool) → Passes job x at_end 0 0 []
passes_nothing job x at_end = record {
  within = omega arith;
  payloads = [];
  counted = refl;
  spelt = refl;
  listed = λ z b may. refl;
  goes_on = λ z b may. sym (ap (λ (v : Verdict). record { text = (translation job (x ++ z) b).text; verdict = v }) (moved_zero (translation job (x ++ z) b).verdict));
}

pub passes_more : (job : Job) (x : List ℕ) (at_end : Bool) (m n i j : ℕ) (xs ys : List ℕ) → Passes job x at_end m i xs → Passes job (drop m x) at_end n j ys → Passes job x at_end (m + n) (i + j) (xs ++ ys)
passes_more job x at_end m n i j xs ys first second =
    let rest : drop n (drop m x) ≡ drop (m + n) x = drop-drop n m x in
    record {
      within = omega (arith, first.within, second.within, length-drop m x);
      payloads = first.payloads ++ second.payloads;
      counted = omega (arith, first.counted, second.counted, length-append first.payloads second.payloads);
      spelt = ap (λ (t : List ℕ). t ++ ys) first.spelt ∙ ap (λ (t : List ℕ). text job.output first.payloads ++ t) second.spelt ∙ sym (flat_map-append (spelling job.output) first.payloads second.payloads);
      listed = λ z may_be may.
          first.listed z may_be may ∙ ap (λ (t : List (List ℕ)). first.payloads ++ t) (second.listed z may_be may)
          ∙ sym (append_assoc first.payloads second.payloads (payloads_of job (drop n (drop m x) ++ z) may_be))
          ∙ ap (λ (y : List ℕ). (first.payloads ++ second.payloads) ++ payloads_of job (y ++ z) may_be) rest;
      goes_on = λ z may_be may.
          let then = ap (λ t. behind xs m t) (second.goes_on z may_be may) ∙ behind_behind xs ys m n (translation job (drop n (drop m x) ++ z) may_be) in
          first.goes_on z may_be may ∙ then ∙ ap (λ (y : List ℕ). behind (xs ++ ys) (m + n) (translation job (y ++ z) may_be)) rest;
    }

-- what is passed over at the front of bytes is passed over whatever comes behind them
pub passes_within : (job : Job) (x z : List ℕ) (at_end : Bool) (len frames : ℕ) (xs : List ℕ) → Passes job x false len frames xs → Passes job (x ++ z) at_end len frames xs
passes_within job x z at_end len frames xs passes =
    let rest : drop len (x ++ z) ≡ drop len x ++ z = drop-append-le len x z passes.within in
    record {
      within = omega (arith, passes.within, length-append x z);
      payloads = passes.payloads;
      counted = passes.counted;
      spelt = passes.spelt;
      listed = λ y b may.
          ap (λ (t : List ℕ). payloads_of job t b) (append_assoc x z y) ∙ passes.listed (z ++ y) b tt
          ∙ ap (λ (t : List ℕ). passes.payloads ++ payloads_of job t b) (sym (append_assoc (drop len x) z y) ∙ ap (λ (t : List ℕ). t ++ y) (sym rest));
      goes_on = λ y b may.
          ap (λ (t : List ℕ). translation job t b) (append_assoc x z y) ∙ passes.goes_on (z ++ y) b tt
          ∙ ap (λ (t : List ℕ). behind xs len (translation job t b)) (sym (append_assoc (drop len x) z y) ∙ ap (λ (t : List ℕ). t ++ y) (sym rest));
    }

-- the translation of all of it
pub passed_text : (job : Job) (x : List ℕ) (at_end : Bool) (n i : ℕ) (xs : List ℕ) → Passes job x at_end n i xs → translation job x at_end ≡ behind xs n (translation job (drop n x) at_end)
passed_text job x at_end n i xs over =
    ap (λ t. translation job t at_end) (sym (append-nil x)) ∙ over.goes_on [] at_end (may_stop at_end)
    ∙ ap (λ t. behind xs n (translation job t at_end)) (append-nil (drop n x))

-- a count that stays at its greatest number
pub capped_more : (a b : ℕ) → min (capped a + b) (2 ^ 64 - 1) ≡ capped (a + b)
capped_more a b = omega arith

-- ---- the answers on a payload

pub none_of : {T E : Type 0} (o : Option ℕ) (x y : T) (kind : ℕ → E) → MatchOption o (◌≡◌ {A = Result T E} (Ok x) (Ok y)) (λ at. ◌≡◌ {A = Result T E} (Ok x) (Err (kind at))) → IsNone o
none_of None x y kind said = refl
none_of (Some at) x y kind said = absurd cc

pub some_of : {T E : Type 0} (o : Option ℕ) (y : T) (k : E) (kind : ℕ → E) → MatchOption o (◌≡◌ {A = Result T E} (Err k) (Ok y)) (λ at. ◌≡◌ {A = Result T E} (Err k) (Err (kind at))) → (at : ℕ) × (o ≡ Some at) × (k ≡ kind at)
some_of None y k kind said = absurd cc
some_of (Some at) y k kind said = (at, refl, cc)

-- one frame
pub one_frame : (job : Job) (x : List ℕ) (at_end : Bool) (from to n : ℕ) → BeginsWithFrame job.input job.max x at_end from to n → IsNone (obstacle job.output (slice_range x from to))
    → Passes job x at_end n 1 (spelling job.output (slice_range x from to))
one_frame job x at_end from to n frame spelt = record {
  within = frame.ordered.2;
  payloads = slice_range x from to ∷ [];
  counted = refl;
  spelt = sym (append-nil (spelling job.output (slice_range x from to)));
  listed = frame_listed job x at_end from to n frame spelt;
  goes_on = frame_goes_on job x at_end from to n frame spelt;
}

-- and its payload is the first that is to be written
pub is_first : (job : Job) (x : List ℕ) (at_end : Bool) (from to n : ℕ) (p : List ℕ) → p ≡ slice_range x from to → BeginsWithFrame job.input job.max x at_end from to n → IsNone (obstacle job.output p) → IsFirst job x at_end p n
is_first job x at_end from to n p is frame spelt =
    let same = rw is at spelt in
    rw is (record {
      passes = one_frame job x at_end from to n frame same;
      others = payloads_of job (drop n x ++ []) at_end;
      first = listed_first job x at_end from to n frame same;
      spelt = same;
      some = omega (arith, frame.some);
    })
