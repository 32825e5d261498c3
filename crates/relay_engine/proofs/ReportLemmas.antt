-- How a relay is reported, by what its drainer had seen of what was taken.
use Rattle.std.proofs.Common.{◌≡◌, ◌≢◌, ◌≤◌, ◌^◌, ℕ, Bool, true, false, List, ◌++◌, length, Option, Some, None, refl, sym, ap, ◌∙◌, subst, append_assoc, arith, ◌⊎◌, inl, inr}
use Rattle.std.proofs.lemmas.List.{length-append}
use Rattle.std.specs.Io.KnownBytes.{Appends}
use mathlib.Core.List.{IsPrefix}
use Rattle.edge_core.specs.Device.{SourceState, SinkState, HasRisen}
use Rattle.frame_grammar.specs.declared.job.Job.{Job}
use Rattle.frame_model.specs.declared.framing.BadKind.{BadKind}
use Rattle.relay_model.specs.declared.ending.FillEnd.{FillEnd}
use Rattle.relay_model.specs.declared.ending.FillEnd.TheVariants as taking
use Rattle.relay_model.specs.declared.ending.Report.{Report}
use Rattle.frame_model.specs.Cut.{Verdict, Bad}
use Rattle.frame_grammar.specs.Job.{translation}
use Rattle.relay_model.specs.Ending.{EndsEarly, is_at_end, outcome_of}
use Rattle.frame_model.proofs.TranslationLemmas.{bad_stays, grows}
use Rattle.relay_model.specs.Run.{IsReported, IsTaken, frames_in}
use Rattle.pipe_core.specs.History.{Call, writer_end}
use Rattle.pipe_core.specs.Progress.{total}
use Rattle.relay_engine.specs.Filler.{fill_code}
use Rattle.relay_engine.specs.Drainer.{is_whole, translated}
use Rattle.relay_engine.specs.Ending.{is_sink_fault, verdict_for}
use Rattle.relay_engine.specs.Sides.{Concludes, GainsUntil, IsEndedFor}
use Rattle.relay_engine.specs.declared.drain_end.DrainEnd.{DrainEnd}
use Rattle.relay_engine.specs.declared.drain_end.DrainEnd.TheVariants as ends
use Rattle.relay_engine.proofs.BoundLemmas.{front_bounded}
use Rattle.relay_engine.proofs.CountLemmas.{frames_of_more}

-- ---- what the reader had seen of what was taken

-- All of it, and the writer had completed.
pub record SawAll (x : List ℕ) (fill : FillEnd) (found : List Call) : Type 0 where
  pub all : total found ≡ x
  pub whole : is_whole found ≡ is_at_end fill
  pub not_gone : (code : ℕ) → fill ≢ taking.Gone code

-- A front of it, and the writer had not completed.
pub record SawFront (x : List ℕ) (found : List Call) : Type 0 where
  pub more : List ℕ
  pub parts : total found ++ more ≡ x
  pub going : writer_end found ≡ None

pub at_end_is : (fill : FillEnd) (h : List Call) → ((code : ℕ) → fill ≢ taking.Gone code) → writer_end h ≡ Some (fill_code fill) → is_whole h ≡ is_at_end fill
at_end_is taking.End h not_gone ended = rw ended refl
at_end_is taking.Fault h not_gone ended = rw ended refl
at_end_is taking.Long h not_gone ended = rw ended refl
at_end_is (taking.Gone code) h not_gone ended = absurd (not_gone code refl)

-- ---- what that says of the report

-- What was concluded of what the reader had seen, of all that was taken.
pub record HoldsOfAll (job : Job) (x : List ℕ) (fill : FillEnd) (found : List Call) (text : List ℕ) (end : DrainEnd) : Type 0 where
  pub front : IsPrefix text (translation job x (is_at_end fill)).text
  pub same : is_sink_fault end ≡ false → translated job found ≡ translation job x (is_at_end fill)
  pub frames : frames_in job (total found) (is_whole found) text ≡ frames_in job x (is_at_end fill) text
  pub within : length (total found) ≤ length x
  pub gone : (code : ℕ) → fill ≡ taking.Gone code → EndsEarly (outcome_of (is_sink_fault end) fill (translation job x (is_at_end fill)).verdict)

pub of_all : (job : Job) (frames told : ℕ) (x : List ℕ) (fill : FillEnd) (found : List Call) (text : List ℕ) (end : DrainEnd) → Concludes job frames told found text end → SawAll x fill found → HoldsOfAll job x fill found text end
of_all job frames told x fill found text end concludes saw = record {
  front = subst (λ t. IsPrefix text t.text) same concludes.front;
  same = λ passed. same;
  frames = ap (λ (b : Bool). frames_in job (total found) b text) saw.whole ∙ ap (λ (l : List ℕ). frames_in job l (is_at_end fill) text) saw.all;
  within = omega (arith, ap length saw.all);
  gone = λ code is. absurd (saw.not_gone code is);
}
  where
    same : translated job found ≡ translation job x (is_at_end fill)
    same = ap (λ (b : Bool). translation job (total found) b) saw.whole ∙ ap (λ (l : List ℕ). translation job l (is_at_end fill)) saw.all

-- while the writer goes on, a drainer ends for a bad frame alone, or since a write failed
pub record IsBad (end : DrainEnd) : Type 0 where
  pub place : ℕ
  pub kind : BadKind
  pub verdict : verdict_for end ≡ Bad place kind
  pub passed : is_sink_fault end ≡ false

bad_or_failed : (end : DrainEnd) (ended : Option ℕ) → ended ≡ None → IsEndedFor end ended → IsBad end ⊎ (is_sink_fault end ≡ true)
bad_or_failed ends.Clean ended none is = let both = sym is ∙ none in absurd cc
bad_or_failed (ends.Rest place) ended none is = let both = sym is ∙ none in absurd cc
bad_or_failed ends.Stopped ended none is = let both = sym is.2 ∙ none in absurd cc
bad_or_failed (ends.Bad place kind) ended none is = inl (record { place = place; kind = kind; verdict = refl; passed = refl })
bad_or_failed ends.SinkFault ended none is = inr refl

further : {A : Type 0} (a b c : List A) → IsPrefix a b → IsPrefix b c → IsPrefix a c
further a b c p q = (p.0 ++ q.0, sym (append_assoc a p.0 q.0) ∙ ap (λ l. l ++ q.0) p.1 ∙ q.1)

pub of_front : (job : Job) (frames told : ℕ) (x : List ℕ) (fill : FillEnd) (found : List Call) (text : List ℕ) (end : DrainEnd) → Concludes job frames told found text end → SawFront x found → HoldsOfAll job x fill found text end
of_front job frames told x fill found text end concludes saw = record {
  front = further text (translation job (total found) false).text (translation job x (is_at_end fill)).text front more;
  same = λ passed. elim cause [
    | inl bad ↦ first ∙ sym (stays bad)
    | inr failed ↦ let both = sym failed ∙ passed in absurd cc
  ];
  frames = ap (λ (b : Bool). frames_in job (total found) b text) whole ∙ sym (frames_of_more job (total found) saw.more text (is_at_end fill) front) ∙ ap (λ (l : List ℕ). frames_in job l (is_at_end fill) text) saw.parts;
  within = omega (arith, ap length saw.parts, length-append (total found) saw.more);
  gone = λ code is. elim cause [
    | inl bad ↦ inl (rw (bad.passed, ap (λ t. t.verdict) (stays bad), verdict bad) refl)
    | inr failed ↦ inr (rw failed refl)
  ];
}
  where
    whole : is_whole found ≡ false
    whole = rw saw.going refl

    first : translated job found ≡ translation job (total found) false
    first = ap (λ (b : Bool). translation job (total found) b) whole

    front : IsPrefix text (translation job (total found) false).text
    front = subst (λ t. IsPrefix text t.text) first concludes.front

    more : IsPrefix (translation job (total found) false).text (translation job x (is_at_end fill)).text
    more = subst (λ (l : List ℕ). IsPrefix (translation job (total found) false).text (translation job l (is_at_end fill)).text) saw.parts (grows job.input job.output job.max (total found) saw.more (is_at_end fill))

    cause : IsBad end ⊎ (is_sink_fault end ≡ true)
    cause = bad_or_failed end (writer_end found) saw.going concludes.ended

    verdict : (bad : IsBad end) → (translation job (total found) false).verdict ≡ Bad bad.place bad.kind
    verdict bad = sym (ap (λ t. t.verdict) first) ∙ concludes.verdict bad.passed ∙ bad.verdict

    stays : IsBad end → translation job x (is_at_end fill) ≡ translation job (total found) false
    stays bad = ap (λ (l : List ℕ). translation job l (is_at_end fill)) (sym saw.parts) ∙ bad_stays job.input job.output job.max (total found) saw.more (is_at_end fill) bad.place bad.kind (verdict bad)

-- what a sink gained, and whether a call of it failed
pub record Gained (end : DrainEnd) (before : SinkState) (gain : List ℕ) (after : SinkState) : Type 0 where
  pub gained : Appends before.written after.written gain
  pub fault : is_sink_fault end ≡ true → HasRisen before.faults after.faults
  pub unfailed : is_sink_fault end ≡ false → after.faults ≡ before.faults
  pub same : after.name ≡ before.name

pub by_end : (end : DrainEnd) (before : SinkState) (gain : List ℕ) (after : SinkState) → GainsUntil end before gain after → Gained end before gain after
by_end ends.Clean before gain after gains = record { gained = gains.taken; fault = λ is. absurd cc; unfailed = λ is. gains.unfailed; same = gains.same }
by_end ends.Stopped before gain after gains = record { gained = gains.taken; fault = λ is. absurd cc; unfailed = λ is. gains.unfailed; same = gains.same }
by_end (ends.Rest place) before gain after gains = record { gained = gains.taken; fault = λ is. absurd cc; unfailed = λ is. gains.unfailed; same = gains.same }
by_end (ends.Bad place kind) before gain after gains = record { gained = gains.taken; fault = λ is. absurd cc; unfailed = λ is. gains.unfailed; same = gains.same }
by_end ends.SinkFault before gain after gains = record { gained = gains.0; fault = λ is. gains.1; unfailed = λ is. absurd cc; same = gains.2 }

-- where a write failed the verdict doesn't count
same_outcome : (failed : Bool) (fill : FillEnd) (v w : Verdict) → (failed ≡ false → v ≡ w) → outcome_of failed fill v ≡ outcome_of failed fill w
same_outcome true fill v w same = refl
same_outcome false fill v w same = ap (λ (x : Verdict). outcome_of false fill x) (same refl)

pub reported : (job : Job) (report : Report) (x : List ℕ) (fill : FillEnd) (found : List Call) (text : List ℕ) (end : DrainEnd) (sb s : SourceState) (kb k : SinkState) → job.limit ≤ 2 ^ 40 → report.outcome ≡ outcome_of (is_sink_fault end) fill (verdict_for end) → report.taken ≡ length x
    → IsTaken job.limit x fill sb s → Gained end kb text k → Concludes job report.frames report.written found text end → HoldsOfAll job x fill found text end → IsReported job report sb s kb k
reported job report x fill found text end sb s kb k limit outcome taken is_taken gained concludes stands = record {
  run = record { taken = x; ending = fill; written = text; write_failed = is_sink_fault end };
  is_run = record {
    taken = is_taken;
    passed_on = record {
      gained = gained.gained;
      front = stands.front;
      whole = λ passed. concludes.whole passed ∙ ap (λ t. t.text) (stands.same passed);
      fault = gained.fault;
      unfailed = gained.unfailed;
      same = gained.same;
    };
    gone = stands.gone;
  };
  ended = outcome ∙ same_outcome (is_sink_fault end) fill (verdict_for end) (translation job x (is_at_end fill)).verdict (λ passed. sym (concludes.verdict passed) ∙ ap (λ t. t.verdict) (stands.same passed));
  frames = concludes.frames_told ∙ stands.frames;
  taken = taken;
  written = omega (arith, concludes.written_told, front_bounded job (total found) (is_whole found) text concludes.front, stands.within, is_taken.within, limit);
}
