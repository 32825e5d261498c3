-- What follows from a run.
use Rattle.std.proofs.Common.{◌≡◌, ◌≤◌, ◌+◌, ℕ, Bool, true, false, List, [], ◌++◌, length, Option, Some, None, refl, sym, ap, ◌∙◌, arith, inl, inr}
use Rattle.std.specs.Prelude.{IfSome}
use Rattle.std.specs.Io.KnownBytes.{Appends, Consumes}
use Rattle.std.proofs.lemmas.List.{append-nil, length-append}
use Rattle.edge_core.specs.Device.{SourceState, SinkState, HasRisen, HasNotRisen}
use Rattle.frame_model.specs.declared.framing.Framing.{Framing}
use Rattle.frame_grammar.specs.declared.job.Job.{Job}
use Rattle.frame_model.specs.declared.framing.BadKind.{BadKind}
use Rattle.relay_model.specs.declared.ending.FillEnd.{FillEnd}
use Rattle.relay_model.specs.declared.ending.FillEnd.TheVariants as taking
use Rattle.frame_model.specs.Cut.{Verdict, Open, End, Rest, Bad}
use Rattle.frame_model.specs.Translation.{translation_between}
use Rattle.frame_grammar.specs.Job.{translation}
use Rattle.relay_model.specs.Ending.{EndsEarly, is_at_end, outcome_of}
use Rattle.relay_model.specs.Run.{IsDropped, IsRun, Run, TranslatesAll}

abbrev pub BadStays : Type 0
BadStays = (input output : Framing) (max : ℕ) (x z : List ℕ) (b : Bool) (place : ℕ) (kind : BadKind)
    → (translation_between input output max x false).verdict ≡ Bad place kind → translation_between input output max (x ++ z) b ≡ translation_between input output max x false

pub not_risen : (before after : ℕ) → HasNotRisen before after → HasRisen before after → ⊥
not_risen before after same (inl rose) = omega (arith, same.0)
not_risen before after same (inr stands) = omega (arith, same.1, stands.1)

-- a reader goes early only where the input is bad
pub bad_where_gone : (n : ℕ) (verdict : Verdict) → EndsEarly (outcome_of false (taking.Gone n) verdict) → (place : ℕ) × (kind : BadKind) × (verdict ≡ Bad place kind)
bad_where_gone n (Bad place kind) early = (place, kind, refl)
bad_where_gone n Open (inl bad) = absurd cc
bad_where_gone n Open (inr failed) = absurd cc
bad_where_gone n End (inl bad) = absurd cc
bad_where_gone n End (inr failed) = absurd cc
bad_where_gone n (Rest place) (inl bad) = absurd cc
bad_where_gone n (Rest place) (inr failed) = absurd cc

-- what was taken, where nothing was dropped and nothing is left
pub all_taken : (input taken dropped left : List ℕ) → input ≡ (taken ++ dropped) ++ left → dropped ≡ [] → left ≡ [] → input ≡ taken
all_taken input taken dropped left parts none_dropped none_left = parts ∙ rw (none_dropped, none_left) (append-nil (taken ++ []) ∙ append-nil taken)

by_ending : (job : Job) (input taken dropped left : List ℕ) (ending : FillEnd) → BadStays → input ≡ (taken ++ dropped) ++ left → length input ≤ job.limit
    → IsDropped ending dropped → (ending ≡ taking.End → left ≡ []) → (ending ≡ taking.Fault → ⊥) → (ending ≡ taking.Long → length taken ≡ job.limit)
    → ((n : ℕ) → ending ≡ taking.Gone n → EndsEarly (outcome_of false ending (translation job taken (is_at_end ending)).verdict))
    → (translation job taken (is_at_end ending)).text ≡ (translation job input true).text
by_ending job input taken dropped left taking.End law parts fits drop end fault long gone =
    let whole : input ≡ taken = all_taken input taken dropped left parts drop (end refl) in
    rw whole refl
by_ending job input taken dropped left taking.Fault law parts fits drop end fault long gone = absurd (fault refl)
by_ending job input taken dropped left taking.Long law parts fits drop end fault long gone =
    let size : length input ≡ (length taken + length dropped) + length left = ap length parts ∙ length-append (taken ++ dropped) left ∙ ap (λ (k : ℕ). k + length left) (length-append taken dropped) in
    let one : length dropped ≡ 1 = drop in
    let all : length taken ≡ job.limit = long refl in
    absurd (omega arith)
by_ending job input taken dropped left (taking.Gone n) law parts fits drop end fault long gone =
    let bad = bad_where_gone n (translation job taken false).verdict (gone n refl) in
    let whole : input ≡ taken ++ left = parts ∙ rw drop (ap (λ (t : List ℕ). t ++ left) (append-nil taken)) in
    rw whole (sym (ap (λ t. t.text) (law job.input job.output job.max taken left true bad.0 bad.1 bad.2)))

pub by_failed : (failed : Bool) (P : Type 0) → (failed ≡ true → ⊥) → (failed ≡ false → P) → P
by_failed true P never then = absurd (never refl)
by_failed false P never then = then refl

pub left_of : (input taken : List ℕ) (after : Option (List ℕ)) → Consumes (Some input) after taken → (left : List ℕ) × (after ≡ Some left) × (input ≡ taken ++ left)
left_of input taken None gives = absurd gives
left_of input taken (Some left) gives = (left, refl, gives)

pub all_translated : BadStays → (job : Job) (run : Run) (source_before source_after : SourceState) (sink_before sink_after : SinkState) →
    IsRun job run source_before source_after sink_before sink_after → TranslatesAll job source_before source_after sink_before sink_after
all_translated law job run source_before source_after sink_before sink_after relay source_sound sink_sound =
    (elim source_before.left as (λ o. source_before.left ≡ o → IfSome source_before.left (λ input. length input ≤ job.limit → Appends sink_before.written sink_after.written (translation job input true).text)) [
      | None ↦ λ e. rw e tt
      | Some input ↦ λ e. rw e (λ fits. told input e fits)
    ]) refl
  where
    told : (input : List ℕ) → source_before.left ≡ Some input → length input ≤ job.limit → Appends sink_before.written sink_after.written (translation job input true).text
    told input e fits =
        let given : Consumes (Some input) source_after.left (run.taken ++ relay.taken.dropped) = rw (← e) relay.taken.given in
        let left = left_of input (run.taken ++ relay.taken.dropped) source_after.left given in
        by_failed run.write_failed (Appends sink_before.written sink_after.written (translation job input true).text)
        (λ failed. not_risen sink_before.faults sink_after.faults sink_sound (relay.passed_on.fault failed))
        (λ passed.
        let text = by_ending job input run.taken relay.taken.dropped left.0 run.ending law left.2 fits relay.taken.dropping
        (λ is. rw left.1 at (relay.taken.end is))
        (λ is. not_risen source_before.faults source_after.faults source_sound (relay.taken.fault is))
        relay.taken.long (rw passed at relay.gone) in
        rw (← text, ← relay.passed_on.whole passed) relay.passed_on.gained)
