-- A lawful input is relayed to its end where no device fails.
use Rattle.std.proofs.Common.{◌≡◌, ◌≤◌, ◌+◌, ℕ, true, false, List, [], ◌++◌, length, Some, None, refl, ap, ◌∙◌, arith}
use Rattle.std.specs.Prelude.{IfSome}
use Rattle.std.specs.Io.KnownBytes.{Appends, Consumes}
use Rattle.std.proofs.lemmas.List.{append-nil, length-append}
use Rattle.edge_core.specs.Device.{SourceState, SinkState}
use Rattle.frame_grammar.specs.declared.job.Job.{Job}
use Rattle.relay_model.specs.declared.ending.FillEnd.{FillEnd}
use Rattle.relay_model.specs.declared.ending.FillEnd.TheVariants as taking
use Rattle.frame_model.specs.Cut.{End, Bad}
use Rattle.frame_grammar.specs.Job.{translation}
use Rattle.relay_model.specs.Ending.{EndsEarly, is_at_end, outcome_of, status_of}
use Rattle.relay_model.specs.declared.status.Status.TheVariants as exit
use Rattle.relay_model.specs.Run.{IsComplete, IsDropped, IsRun, Run, outcome}
use Rattle.relay_model.proofs.RunLemmas.{BadStays, all_taken, all_translated, bad_where_gone, by_failed, left_of, not_risen}

clean : (job : Job) (input taken dropped left : List ℕ) (ending : FillEnd) → BadStays → input ≡ (taken ++ dropped) ++ left → length input ≤ job.limit
    → IsDropped ending dropped → (ending ≡ taking.End → left ≡ []) → (ending ≡ taking.Fault → ⊥) → (ending ≡ taking.Long → length taken ≡ job.limit)
    → ((n : ℕ) → ending ≡ taking.Gone n → EndsEarly (outcome_of false ending (translation job taken (is_at_end ending)).verdict))
    → (translation job input true).verdict ≡ End → status_of (outcome_of false ending (translation job taken (is_at_end ending)).verdict) ≡ exit.Clean
clean job input taken dropped left taking.End law parts fits drop end fault long gone lawful =
    let whole : input ≡ taken = all_taken input taken dropped left parts drop (end refl) in
    rw (← whole, lawful) refl
clean job input taken dropped left taking.Fault law parts fits drop end fault long gone lawful = absurd (fault refl)
clean job input taken dropped left taking.Long law parts fits drop end fault long gone lawful =
    let size : length input ≡ (length taken + length dropped) + length left = ap length parts ∙ length-append (taken ++ dropped) left ∙ ap (λ (k : ℕ). k + length left) (length-append taken dropped) in
    let one : length dropped ≡ 1 = drop in
    let all : length taken ≡ job.limit = long refl in
    absurd (omega arith)
clean job input taken dropped left (taking.Gone n) law parts fits drop end fault long gone lawful =
    let bad = bad_where_gone n (translation job taken false).verdict (gone n refl) in
    let whole : input ≡ taken ++ left = parts ∙ rw drop (ap (λ (t : List ℕ). t ++ left) (append-nil taken)) in
    let stays : (translation job input true).verdict ≡ Bad bad.0 bad.1 = ap (λ (x : List ℕ). (translation job x true).verdict) whole ∙ ap (λ t. t.verdict) (law job.input job.output job.max taken left true bad.0 bad.1 bad.2) ∙ bad.2 in
    absurd cc

pub complete : BadStays → (job : Job) (run : Run) (source_before source_after : SourceState) (sink_before sink_after : SinkState) →
    IsRun job run source_before source_after sink_before sink_after → IsComplete job (status_of (outcome job run)) source_before source_after sink_before sink_after
complete law job run source_before source_after sink_before sink_after relay source_sound sink_sound =
    let text = all_translated law job run source_before source_after sink_before sink_after relay source_sound sink_sound in
    (elim source_before.left as (λ o. source_before.left ≡ o → IfSome o (λ input. length input ≤ job.limit → Appends sink_before.written sink_after.written (translation job input true).text)
    → IfSome source_before.left (λ input. length input ≤ job.limit → (translation job input true).verdict ≡ End → (status_of (outcome job run) ≡ exit.Clean) × Appends sink_before.written sink_after.written (translation job input true).text)) [
      | None ↦ λ e gained. rw e tt
      | Some input ↦ λ e gained. rw e (λ fits lawful. (zero input e fits lawful, gained fits))
    ]) refl text
  where
    zero : (input : List ℕ) → source_before.left ≡ Some input → length input ≤ job.limit → (translation job input true).verdict ≡ End → status_of (outcome job run) ≡ exit.Clean
    zero input e fits lawful =
        let given : Consumes (Some input) source_after.left (run.taken ++ relay.taken.dropped) = rw (← e) relay.taken.given in
        let left = left_of input (run.taken ++ relay.taken.dropped) source_after.left given in
        by_failed run.write_failed (status_of (outcome job run) ≡ exit.Clean)
        (λ failed. not_risen sink_before.faults sink_after.faults sink_sound (relay.passed_on.fault failed))
        (λ passed. rw passed (clean job input run.taken relay.taken.dropped left.0 run.ending law left.2 fits relay.taken.dropping
        (λ is. rw left.1 at (relay.taken.end is))
        (λ is. not_risen source_before.faults source_after.faults source_sound (relay.taken.fault is))
        relay.taken.long (rw passed at relay.gone) lawful))
