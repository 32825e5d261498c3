-- What each status says of a run.
use Rattle.std.proofs.Common.{◌≡◌, ◌≢◌, ℕ, Bool, true, false, List, [], ◌++◌, Some, None, refl, arith, inl, inr, ◌⊎◌}
use Rattle.std.specs.Io.KnownBytes.{Appends, Consumes, IsAtEnd}
use Rattle.edge_core.specs.Device.{SourceState, SinkState}
use Rattle.frame_grammar.specs.declared.job.Job.{Job}
use Rattle.relay_model.specs.declared.ending.FillEnd.{FillEnd}
use Rattle.relay_model.specs.declared.ending.FillEnd.TheVariants as taking
use Rattle.relay_model.specs.declared.ending.Outcome.{Outcome}
use Rattle.relay_model.specs.declared.ending.Outcome.TheVariants.{Clean, BadFrame, Truncated, ReadFault, WriteFault, TooLong}
use Rattle.frame_model.specs.Cut.{Verdict, Open, End, Rest, Bad}
use Rattle.frame_grammar.specs.Job.{translation}
use Rattle.relay_model.specs.declared.status.Status.{Status}
use Rattle.relay_model.specs.declared.status.Status.TheVariants as exit
use Rattle.relay_model.specs.Ending.{outcome_of, status_of}
use Rattle.frame_model.proofs.EndLemmas.{not_open}
use Rattle.relay_model.specs.Run.{HasCause, IsRun, RelaysAll, Run, outcome, translated}
use Rattle.relay_model.proofs.RunLemmas.{all_taken, left_of}

-- the input was read to its end, or the reader of the taken bytes is gone
pub data Ends (ending : FillEnd) : Type 0 where
  AtEnd : ending ≡ taking.End → Ends ending
  Left : (code : ℕ) → ending ≡ taking.Gone code → Ends ending

pub data Says (failed : Bool) (ending : FillEnd) (v : Verdict) (status : Status) : Type 0 where
  WriteFailed : failed ≡ true → status ≡ exit.WriteFault → Says failed ending v status
  IsBad : failed ≡ false → status ≡ exit.BadFrame → Says failed ending v status
  ReadFailed : failed ≡ false → ending ≡ taking.Fault → status ≡ exit.ReadFault → Says failed ending v status
  IsLong : failed ≡ false → ending ≡ taking.Long → status ≡ exit.TooLong → Says failed ending v status
  IsTruncated : failed ≡ false → Ends ending → status ≡ exit.Truncated → Says failed ending v status
  IsWhole : failed ≡ false → Ends ending → (v ≡ End) ⊎ (v ≡ Open) → status ≡ exit.Clean → Says failed ending v status

pub says : (failed : Bool) (ending : FillEnd) (v : Verdict) → Says failed ending v (status_of (outcome_of failed ending v))
says true ending v = WriteFailed refl refl
says false taking.End (Bad place kind) = IsBad refl refl
says false taking.Fault (Bad place kind) = IsBad refl refl
says false taking.Long (Bad place kind) = IsBad refl refl
says false (taking.Gone code) (Bad place kind) = IsBad refl refl
says false taking.Fault Open = ReadFailed refl refl refl
says false taking.Fault End = ReadFailed refl refl refl
says false taking.Fault (Rest place) = ReadFailed refl refl refl
says false taking.Long Open = IsLong refl refl refl
says false taking.Long End = IsLong refl refl refl
says false taking.Long (Rest place) = IsLong refl refl refl
says false taking.End (Rest place) = IsTruncated refl (AtEnd refl) refl
says false (taking.Gone code) (Rest place) = IsTruncated refl (Left code refl) refl
says false taking.End End = IsWhole refl (AtEnd refl) (inl refl) refl
says false taking.End Open = IsWhole refl (AtEnd refl) (inr refl) refl
says false (taking.Gone code) End = IsWhole refl (Left code refl) (inl refl) refl
says false (taking.Gone code) Open = IsWhole refl (Left code refl) (inr refl) refl

abbrev Told : Job → Run → Type 0
Told job run = Says run.write_failed run.ending (translated job run).verdict (status_of (outcome job run))

told_of : (job : Job) (run : Run) → Told job run
told_of job run = says run.write_failed run.ending (translated job run).verdict

-- the reader is gone only where a frame is bad or a write failed
read_to_end : (ending : FillEnd) (status : Status) → Ends ending → ((code : ℕ) → ending ≡ taking.Gone code → (status ≡ exit.BadFrame) ⊎ (status ≡ exit.WriteFault)) → (status ≡ exit.Clean) ⊎ (status ≡ exit.Truncated) → ending ≡ taking.End
read_to_end ending status (AtEnd e) gone which = e
read_to_end ending status (Left code e) gone which = elim (gone code e) [
  | inl two ↦ elim which [ inl z ↦ absurd cc | inr z ↦ absurd cc ]
  | inr five ↦ elim which [ inl z ↦ absurd cc | inr z ↦ absurd cc ]
]

-- ---- the causes

at_end_of : (failed : Bool) (ending : FillEnd) (v : Verdict) (status : Status) → ((code : ℕ) → ending ≡ taking.Gone code → (status ≡ exit.BadFrame) ⊎ (status ≡ exit.WriteFault)) → Says failed ending v status → (status ≡ exit.Clean) ⊎ (status ≡ exit.Truncated) → ending ≡ taking.End
at_end_of failed ending v status gone (WriteFailed f s) which = elim which [ inl z ↦ absurd cc | inr z ↦ absurd cc ]
at_end_of failed ending v status gone (IsBad f s) which = elim which [ inl z ↦ absurd cc | inr z ↦ absurd cc ]
at_end_of failed ending v status gone (ReadFailed f e s) which = elim which [ inl z ↦ absurd cc | inr z ↦ absurd cc ]
at_end_of failed ending v status gone (IsLong f e s) which = elim which [ inl z ↦ absurd cc | inr z ↦ absurd cc ]
at_end_of failed ending v status gone (IsTruncated f e s) which = read_to_end ending status e gone which
at_end_of failed ending v status gone (IsWhole f e w s) which = read_to_end ending status e gone which

fault_of : (failed : Bool) (ending : FillEnd) (v : Verdict) (status : Status) → Says failed ending v status → status ≡ exit.ReadFault → ending ≡ taking.Fault
fault_of failed ending v status (WriteFailed f s) four = absurd cc
fault_of failed ending v status (IsBad f s) four = absurd cc
fault_of failed ending v status (ReadFailed f e s) four = e
fault_of failed ending v status (IsLong f e s) four = absurd cc
fault_of failed ending v status (IsTruncated f e s) four = absurd cc
fault_of failed ending v status (IsWhole f e w s) four = absurd cc

failed_of : (failed : Bool) (ending : FillEnd) (v : Verdict) (status : Status) → Says failed ending v status → status ≡ exit.WriteFault → failed ≡ true
failed_of failed ending v status (WriteFailed f s) five = f
failed_of failed ending v status (IsBad f s) five = absurd cc
failed_of failed ending v status (ReadFailed f e s) five = absurd cc
failed_of failed ending v status (IsLong f e s) five = absurd cc
failed_of failed ending v status (IsTruncated f e s) five = absurd cc
failed_of failed ending v status (IsWhole f e w s) five = absurd cc

shows_read_fault : (failed : Bool) (ending : FillEnd) (v : Verdict) (status : Status) → Says failed ending v status → (ending ≢ taking.Fault → ⊥) → (status ≡ exit.BadFrame) ⊎ ((status ≡ exit.ReadFault) ⊎ (status ≡ exit.WriteFault))
shows_read_fault failed ending v status (WriteFailed f s) fault = inr (inr s)
shows_read_fault failed ending v status (IsBad f s) fault = inl s
shows_read_fault failed ending v status (ReadFailed f e s) fault = inr (inl s)
shows_read_fault failed ending v status (IsLong f e s) fault = absurd (fault (λ no. absurd cc))
shows_read_fault failed ending v status (IsTruncated f (AtEnd e) s) fault = absurd (fault (λ no. absurd cc))
shows_read_fault failed ending v status (IsTruncated f (Left code e) s) fault = absurd (fault (λ no. absurd cc))
shows_read_fault failed ending v status (IsWhole f (AtEnd e) w s) fault = absurd (fault (λ no. absurd cc))
shows_read_fault failed ending v status (IsWhole f (Left code e) w s) fault = absurd (fault (λ no. absurd cc))

shows_write_fault : (failed : Bool) (ending : FillEnd) (v : Verdict) (status : Status) → Says failed ending v status → (failed ≡ false → ⊥) → status ≡ exit.WriteFault
shows_write_fault failed ending v status (WriteFailed f s) fault = s
shows_write_fault failed ending v status (IsBad f s) fault = absurd (fault f)
shows_write_fault failed ending v status (ReadFailed f e s) fault = absurd (fault f)
shows_write_fault failed ending v status (IsLong f e s) fault = absurd (fault f)
shows_write_fault failed ending v status (IsTruncated f e s) fault = absurd (fault f)
shows_write_fault failed ending v status (IsWhole f e w s) fault = absurd (fault f)

pub few : (o : Outcome) → (status_of o ≢ exit.Usage) × (status_of o ≢ exit.OutOfMemory) × (status_of o ≢ exit.DoorFault)
few Clean = (λ e. cc, λ e. cc, λ e. cc)
few (BadFrame place kind) = (λ e. cc, λ e. cc, λ e. cc)
few (Truncated place) = (λ e. cc, λ e. cc, λ e. cc)
few ReadFault = (λ e. cc, λ e. cc, λ e. cc)
few WriteFault = (λ e. cc, λ e. cc, λ e. cc)
few TooLong = (λ e. cc, λ e. cc, λ e. cc)

pub causes : (job : Job) (run : Run) (source_before source_after : SourceState) (sink_before sink_after : SinkState) → IsRun job run source_before source_after sink_before sink_after
    → HasCause (status_of (outcome job run)) source_before source_after sink_before sink_after
causes job run source_before source_after sink_before sink_after relay =
    let s = told_of job run in
    record {
      at_end = λ which. relay.taken.end (at_end_of _ _ _ _ relay.gone s which);
      read_fault = λ four. relay.taken.fault (fault_of _ _ _ _ s four);
      write_fault = λ five. relay.passed_on.fault (failed_of _ _ _ _ s five);
      source_failed = λ rose. shows_read_fault _ _ _ _ s (λ kept. omega (arith, relay.taken.unfailed kept, rose));
      sink_failed = λ rose. shows_write_fault _ _ _ _ s (λ passed. omega (arith, relay.passed_on.unfailed passed, rose));
      few = few (outcome job run);
    }

-- ---- status 0

pub whole : (job : Job) (run : Run) (source_before source_after : SourceState) (sink_before sink_after : SinkState) → IsRun job run source_before source_after sink_before sink_after → status_of (outcome job run) ≡ exit.Clean
    → RelaysAll job source_before source_after sink_before sink_after
whole job run source_before source_after sink_before sink_after relay clean =
    (elim source_before.left as (λ o. source_before.left ≡ o → RelaysAll job source_before source_after sink_before sink_after) [
      | None ↦ λ e. rw e tt
      | Some input ↦ λ e. rw e (all_of input e (told_of job run))
    ]) refl
  where
    all_of : (input : List ℕ) → source_before.left ≡ Some input → Told job run
        → IsAtEnd source_after.left × ((translation job input true).verdict ≡ End) × Appends sink_before.written sink_after.written (translation job input true).text
    all_of input e (WriteFailed f s) = absurd cc
    all_of input e (IsBad f s) = absurd cc
    all_of input e (ReadFailed f r s) = absurd cc
    all_of input e (IsLong f r s) = absurd cc
    all_of input e (IsTruncated f r s) = absurd cc
    all_of input e (IsWhole f r v s) =
        let ended = read_to_end run.ending (status_of (outcome job run)) r relay.gone (inl clean) in
        let nothing_left = relay.taken.end ended in
        let none_dropped : relay.taken.dropped ≡ [] = rw ended at relay.taken.dropping in
        let given : Consumes (Some input) source_after.left (run.taken ++ relay.taken.dropped) = rw (← e) relay.taken.given in
        let left = left_of input (run.taken ++ relay.taken.dropped) source_after.left given in
        let none_left : left.0 ≡ [] = rw left.1 at nothing_left in
        let all : input ≡ run.taken = all_taken input run.taken relay.taken.dropped left.0 left.2 none_dropped none_left in
        let verdict : ((translation job run.taken true).verdict ≡ End) ⊎ ((translation job run.taken true).verdict ≡ Open) = rw ended at v in
        let text : run.written ≡ (translation job run.taken true).text = rw ended at (relay.passed_on.whole f) in (
          nothing_left,
          rw all (elim verdict [ inl is ↦ is | inr stays ↦ absurd (not_open job.input job.output job.max run.taken stays) ]),
          rw (all, ← text) relay.passed_on.gained,
        )
