-- What follows for relays between devices that doors opened, whichever they are.
use Rattle.std.proofs.Common.{◌≡◌, ◌≢◌, ◌<◌, ◌≤◌, ◌+◌, ◌⊎◌, ℕ, true, false, List, [], ◌∷◌, length, Option, Some, None, Ok, Err, refl, sym, ap, ◌∙◌, subst, arith, inl, inr, suc, zero, IfOk}
use Rattle.std.specs.Prelude.{⊤, IfSome, IsSome}
use Rattle.std.specs.Io.KnownBytes.{Appends}
use Rattle.std.proofs.lemmas.Bool.{cases_Bool}
use Rattle.edge_core.specs.Device.{HasNotRisen, HasRisen, SinkState}
use Rattle.edge_core.specs.Doors.{CountsFaults, DoorsState, Told}
use Rattle.frame_grammar.specs.declared.job.Job.{Job}
use Rattle.frame_grammar.specs.Job.{translation}
use Rattle.frame_model.specs.Cut.{End}
use Rattle.relay_model.specs.declared.status.Status.{Status}
use Rattle.relay_model.specs.declared.status.Status.TheVariants as exit
use Rattle.relay_model.specs.Answers.{Answer, EndsLike, Finishes, Relayed, answers, first_failed, returned, status_of_answer}
use Rattle.relay_model.specs.Devices.{AreFresh, faults_among}
use Rattle.relay_model.specs.Run.{HasCause, IsComplete, RelaysAll, TranslatesAll}
use Rattle.relay_model.specs.Status.{is_clean}
use Rattle.relay_model.proofs.AnswerLemmas.{LawOf, by_answer, no_usage}
use Rattle.relay_model.proofs.StatusLemmas.{few}
use Rattle.relay_top.specs.Opened.{HasOpeningCause, HasOwnSink, HasRelayedWhole, IsLawful, RelaysOpened, TranslatesOpened}

-- the laws of runs
abbrev pub Caused : Type 0
Caused = LawOf (λ job status sb sa kb ka. HasCause status sb sa kb ka)

abbrev pub Completed : Type 0
Completed = LawOf (λ job status sb sa kb ka. IsComplete job status sb sa kb ka)

abbrev pub Translated : Type 0
Translated = LawOf (λ job status sb sa kb ka. TranslatesAll job sb sa kb ka)

abbrev pub WholeWhereClean : Type 0
WholeWhereClean = LawOf (λ job status sb sa kb ka. status ≡ exit.Clean → RelaysAll job sb sa kb ka)

-- ---- statuses

clean_is : (s : Status) → is_clean s ≡ true → s ≡ exit.Clean
clean_is exit.Clean e = refl
clean_is exit.Usage e = absurd cc
clean_is exit.BadFrame e = absurd cc
clean_is exit.Truncated e = absurd cc
clean_is exit.ReadFault e = absurd cc
clean_is exit.WriteFault e = absurd cc
clean_is exit.OutOfMemory e = absurd cc
clean_is exit.TooLong e = absurd cc
clean_is exit.DoorFault e = absurd cc

no_door : (answer : Answer) → status_of_answer answer ≢ exit.DoorFault
no_door (Ok report) = (few report.outcome).2
no_door (Err none) = λ e. cc

ends_as : (first : Option (List ℕ × Answer)) (status : Status) (fb fa : SinkState) → EndsLike first status fb fa → (status ≢ exit.Usage) × (status ≢ exit.DoorFault)
ends_as None status fb fa ends = let clean = ends.0 in (λ e. cc, λ e. cc)
ends_as (Some failed) status fb fa ends = (λ e. no_usage failed.1 (sym ends.0 ∙ e), λ e. no_door failed.1 (sym ends.0 ∙ e))

-- ---- counts of faults

above_none : (n : ℕ) → HasRisen 0 n → 0 < n
above_none n (inl rose) = rose
above_none n (inr stands) = omega (arith, stands.0)

risen_from_none : (a n : ℕ) → a ≡ 0 → HasRisen a n → 0 < n
risen_from_none a n none rose = above_none n (subst (λ x. HasRisen x n) none rose)

pub not_both : (a b : ℕ) → HasRisen a b → HasNotRisen a b → ⊥
not_both a b (inl rose) stays = omega (arith, rose, stays.0)
not_both a b (inr stands) stays = omega (arith, stands.1, stays.1)

pub none_failed : (before n after : ℕ) → CountsFaults before n after → HasNotRisen before after → n ≡ 0
none_failed before zero after counts stays = refl
none_failed before (suc n) after counts stays = absurd (not_both before after (counts.risen (omega arith)) stays)

-- ---- one relay

abbrev pub FinishesOn : Job → Relayed → Type 0
FinishesOn job relayed = Finishes job relayed.answer relayed.opened.inlet relayed.ended.inlet relayed.opened.outlet relayed.ended.outlet

abbrev pub IsClean : Relayed → Type 0
IsClean relayed = status_of_answer relayed.answer ≡ exit.Clean

-- there was no memory for it
abbrev pub HasNone : Relayed → Type 0
HasNone relayed = status_of_answer relayed.answer ≡ exit.OutOfMemory

abbrev pub HasNoFault : Relayed → Type 0
HasNoFault relayed = relayed.ended.inlet.faults + relayed.ended.outlet.faults ≡ 0

-- where its status tells of a device's fault, it has such a device
abbrev pub IsBlamed : Relayed → Type 0
IsBlamed relayed = (status_of_answer relayed.answer ≡ exit.ReadFault) ⊎ (status_of_answer relayed.answer ≡ exit.WriteFault) → 0 < relayed.ended.inlet.faults + relayed.ended.outlet.faults

module _ (told : Option Told) (job : Job) (content : Told → Option (List ℕ)) (name : List ℕ) (relayed : Relayed) where
  pub is_blamed : Caused → AreFresh told content name relayed.opened → FinishesOn job relayed → IsBlamed relayed
  is_blamed law fresh finishes = λ which. elim which [
    | inl is ↦
        let more = risen_from_none relayed.opened.inlet.faults relayed.ended.inlet.faults fresh.inlet.unfailed ((cause (λ memory. cc)).read_fault is) in
        omega (arith, more)
    | inr is ↦
        let more = risen_from_none relayed.opened.outlet.faults relayed.ended.outlet.faults fresh.outlet_unfailed ((cause (λ memory. cc)).write_fault is) in
        omega (arith, more)
  ]
    where
      cause : status_of_answer relayed.answer ≢ exit.OutOfMemory → HasCause (status_of_answer relayed.answer) relayed.opened.inlet relayed.ended.inlet relayed.opened.outlet relayed.ended.outlet
      cause memory = by_answer (λ job status sb sa kb ka. HasCause status sb sa kb ka) law job relayed.answer relayed.opened.inlet relayed.ended.inlet relayed.opened.outlet relayed.ended.outlet finishes memory

  own_sink : AreFresh told content name relayed.opened → FinishesOn job relayed → HasOwnSink told name relayed
  own_sink fresh finishes = at_end told fresh.named
    where
      kept : (answer : Answer) → Finishes job answer relayed.opened.inlet relayed.ended.inlet relayed.opened.outlet relayed.ended.outlet → relayed.ended.outlet.name ≡ relayed.opened.outlet.name
      kept (Err none) done = ap (λ (k : SinkState). k.name) done.1
      kept (Ok report) done = done.is_run.passed_on.same

      at_end : (t : Option Told) → IfSome t (λ _. relayed.opened.outlet.name ≡ Some name) → IfSome t (λ _. relayed.ended.outlet.name ≡ Some name)
      at_end None named = tt
      at_end (Some tells) named = kept relayed.answer finishes ∙ named

  pub translates : Translated → AreFresh told content name relayed.opened → FinishesOn job relayed → TranslatesOpened told job content name relayed
  translates law fresh finishes = record { fresh = fresh; translated = by relayed.answer finishes; own = own_sink fresh finishes }
    where
      by : (answer : Answer) → Finishes job answer relayed.opened.inlet relayed.ended.inlet relayed.opened.outlet relayed.ended.outlet
          → IfOk answer (λ report. TranslatesAll job relayed.opened.inlet relayed.ended.inlet relayed.opened.outlet relayed.ended.outlet)
      by (Err none) done = tt
      by (Ok report) done = law job done.run relayed.opened.inlet relayed.ended.inlet relayed.opened.outlet relayed.ended.outlet done.is_run

  pub relays_whole : WholeWhereClean → AreFresh told content name relayed.opened → FinishesOn job relayed → IsClean relayed → RelaysOpened told job content name relayed
  relays_whole law fresh finishes clean = record {
    fresh = fresh;
    whole = by_answer (λ job status sb sa kb ka. status ≡ exit.Clean → RelaysAll job sb sa kb ka) law job relayed.answer relayed.opened.inlet relayed.ended.inlet relayed.opened.outlet relayed.ended.outlet finishes (λ memory. cc) clean;
    own = own_sink fresh finishes;
  }

whole_text : (written before : Option (List ℕ)) (text : List ℕ) → before ≡ Some [] → Appends before written text → written ≡ Some text
whole_text None before text empty gained = absurd (subst (λ (b : Option (List ℕ)). Appends b None text) empty gained)
whole_text (Some xs) before text empty gained = ap (λ (ys : List ℕ). Some ys) (subst (λ (b : Option (List ℕ)). Appends b (Some xs) text) empty gained)

-- where its input is lawful and no device of it failed, all is relayed, or there was no memory
pub goes : Completed → (told : Told) (job : Job) (content : Told → Option (List ℕ)) (name : List ℕ) (relayed : Relayed) → AreFresh (Some told) content name relayed.opened → FinishesOn job relayed
    → IsLawful job (content told) → HasNoFault relayed → HasRelayedWhole job (content told) relayed ⊎ HasNone relayed
goes law told job content name relayed fresh finishes lawful unfailed = by_answered relayed.answer refl
  where
    source : HasNotRisen relayed.opened.inlet.faults relayed.ended.inlet.faults
    source = (omega (arith, unfailed, fresh.inlet.unfailed), omega (arith, unfailed))

    sink : HasNotRisen relayed.opened.outlet.faults relayed.ended.outlet.faults
    sink = (omega (arith, unfailed, fresh.outlet_unfailed), omega (arith, unfailed))

    by_content : (bytes : Option (List ℕ)) → content told ≡ bytes → IsSome bytes → relayed.opened.inlet.left ≡ bytes → status_of_answer relayed.answer ≢ exit.OutOfMemory
        → IfSome bytes (λ input. (length input ≤ job.limit) × ((translation job input true).verdict ≡ End)) → HasRelayedWhole job (content told) relayed
    by_content None is some left memory lawful = absurd cc
    by_content (Some input) is some left memory lawful =
        let complete = by_answer (λ job status sb sa kb ka. IsComplete job status sb sa kb ka) law job relayed.answer relayed.opened.inlet relayed.ended.inlet relayed.opened.outlet relayed.ended.outlet finishes memory source sink in
        let all = (rw left at complete) lawful.0 lawful.1 in
        record { clean = all.0; translated = (input, is, whole_text relayed.ended.outlet.written relayed.opened.outlet.written (translation job input true).text fresh.empty all.1) }

    by_answered : (answer : Answer) → relayed.answer ≡ answer → HasRelayedWhole job (content told) relayed ⊎ HasNone relayed
    by_answered (Err none) same = inr (ap status_of_answer same)
    by_answered (Ok report) same =
        let memory : status_of_answer relayed.answer ≢ exit.OutOfMemory = λ e. (few report.outcome).1 (sym (ap status_of_answer same) ∙ e) in
        inl (by_content (content told) refl fresh.inlet.bytes.1 fresh.inlet.bytes.0 memory lawful)

pub whole_where_clean : (job : Job) (bytes : Option (List ℕ)) (relayed : Relayed) → HasRelayedWhole job bytes relayed ⊎ HasNone relayed → IsClean relayed → HasRelayedWhole job bytes relayed
whole_where_clean job bytes relayed (inl whole) clean = whole
whole_where_clean job bytes relayed (inr none) clean = absurd (let both = sym clean ∙ none in cc)

pub clean_or_none : (job : Job) (bytes : Option (List ℕ)) (relayed : Relayed) → HasRelayedWhole job bytes relayed ⊎ HasNone relayed → IsClean relayed ⊎ HasNone relayed
clean_or_none job bytes relayed (inl whole) = inl whole.clean
clean_or_none job bytes relayed (inr none) = inr none

-- ---- many relays

abbrev pub Each : (Relayed → Type 0) → List Relayed → Type 0
Each P [] = ⊤
Each P (one ∷ others) = P one × Each P others

abbrev TellsFault : Option (List ℕ × Answer) → Type 0
TellsFault None = ⊥
TellsFault (Some failed) = (status_of_answer failed.1 ≡ exit.ReadFault) ⊎ (status_of_answer failed.1 ≡ exit.WriteFault)

some_failed : (labels : List (List ℕ)) (relayed : List Relayed) → Each IsBlamed relayed → TellsFault (first_failed labels (answers relayed)) → 0 < faults_among (returned relayed)
some_failed [] relayed each tells = absurd tells
some_failed (label ∷ labels) [] each tells = absurd tells
some_failed (label ∷ labels) (r ∷ relayed) each tells = (elim (cases_Bool (is_clean (status_of_answer r.answer))) [
  | inl clean ↦ let rest = some_failed labels relayed each.1 (rw clean at tells) in omega (arith, rest)
  | inr failed ↦ let more = each.0 (rw failed at tells) in omega (arith, more)
])

faulty : (first : Option (List ℕ × Answer)) (status : Status) (fb fa : SinkState) → EndsLike first status fb fa → (status ≡ exit.ReadFault) ⊎ (status ≡ exit.WriteFault) → TellsFault first
faulty None status fb fa ends (inl is) = let clean = ends.0 in cc
faulty None status fb fa ends (inr is) = let clean = ends.0 in cc
faulty (Some failed) status fb fa ends (inl is) = inl (sym ends.0 ∙ is)
faulty (Some failed) status fb fa ends (inr is) = inr (sym ends.0 ∙ is)

pub all_clean : (labels : List (List ℕ)) (relayed : List Relayed) → length labels ≡ length relayed → first_failed labels (answers relayed) ≡ None → Each IsClean relayed
all_clean labels [] size none = tt
all_clean [] (r ∷ relayed) size none = absurd (omega (arith, size))
all_clean (label ∷ labels) (r ∷ relayed) size none = (elim (cases_Bool (is_clean (status_of_answer r.answer))) [
  | inl clean ↦ (clean_is (status_of_answer r.answer) clean, all_clean labels relayed (omega (arith, size)) (rw clean at none))
  | inr failed ↦ absurd (let some = rw failed at none in cc)
])

-- a first one that failed has another status than a clean one
shows : (labels : List (List ℕ)) (given : List Answer) (failed : List ℕ × Answer) → first_failed labels given ≡ Some failed → status_of_answer failed.1 ≡ exit.Clean → ⊥
shows [] given failed is zero_is = absurd cc
shows (label ∷ labels) [] failed is zero_is = absurd cc
shows (label ∷ labels) (answer ∷ given) failed is zero_is = (elim (cases_Bool (is_clean (status_of_answer answer))) [
  | inl clean ↦ shows labels given failed (rw clean at is) zero_is
  | inr other ↦ absurd (let same : Some (label, answer) ≡ Some failed = rw other at is in let first : status_of_answer answer ≡ exit.Clean = by_same (label, answer) failed same zero_is in let both : true ≡ false = sym (ap is_clean first) ∙ other in cc)
])
  where
    by_same : (f g : List ℕ × Answer) → Some f ≡ Some g → status_of_answer g.1 ≡ exit.Clean → status_of_answer f.1 ≡ exit.Clean
    by_same f g same zero_is = subst (λ (o : Option (List ℕ × Answer)). IfSome o (λ x. status_of_answer x.1 ≡ exit.Clean)) (sym same) zero_is

pub none_first : (labels : List (List ℕ)) (given : List Answer) (first : Option (List ℕ × Answer)) (status : Status) (fb fa : SinkState) → first_failed labels given ≡ first → EndsLike first status fb fa → status ≡ exit.Clean → first ≡ None
none_first labels given None status fb fa is ends clean = refl
none_first labels given (Some failed) status fb fa is ends clean = absurd (shows labels given failed is (sym ends.0 ∙ clean))

-- none has another status, or the first that has one had no memory
abbrev pub AllGo : List (List ℕ) → List Relayed → Type 0
AllGo labels relayed = (first_failed labels (answers relayed) ≡ None) ⊎ ((failed : List ℕ × Answer) × (first_failed labels (answers relayed) ≡ Some failed) × (status_of_answer failed.1 ≡ exit.OutOfMemory))

pub all_go : (labels : List (List ℕ)) (relayed : List Relayed) → Each (λ one. IsClean one ⊎ HasNone one) relayed → AllGo labels relayed
all_go [] relayed each = inl refl
all_go (label ∷ labels) [] each = inl refl
all_go (label ∷ labels) (r ∷ relayed) each = (elim each.0 [
  | inl clean ↦
      let skip : first_failed (label ∷ labels) (r.answer ∷ answers relayed) ≡ first_failed labels (answers relayed) = rw clean refl in
      (elim (all_go labels relayed each.1) [ inl none ↦ inl (skip ∙ none) | inr some ↦ inr (some.0, skip ∙ some.1, some.2) ])
  | inr none ↦ inr ((label, r.answer), rw none refl, none)
])

ends_six : (first : Option (List ℕ × Answer)) (failed : List ℕ × Answer) (status : Status) (fb fa : SinkState) → EndsLike first status fb fa → first ≡ Some failed → status_of_answer failed.1 ≡ exit.OutOfMemory → status ≡ exit.OutOfMemory
ends_six None failed status fb fa ends is six = absurd cc
ends_six (Some other) failed status fb fa ends is six = ends.0 ∙ subst (λ (o : Option (List ℕ × Answer)). IfSome o (λ f. status_of_answer f.1 ≡ exit.OutOfMemory)) (sym is) six

ends_clean : (first : Option (List ℕ × Answer)) (status : Status) (fb fa : SinkState) → EndsLike first status fb fa → first ≡ None → status ≡ exit.Clean
ends_clean None status fb fa ends is = ends.0
ends_clean (Some other) status fb fa ends is = absurd cc

-- so the command has a clean status, and each relay has, or there was no memory
pub go_on : (labels : List (List ℕ)) (relayed : List Relayed) (status : Status) (fb fa : SinkState) → length labels ≡ length relayed → Each (λ one. IsClean one ⊎ HasNone one) relayed
    → EndsLike (first_failed labels (answers relayed)) status fb fa → ((status ≡ exit.Clean) × Each IsClean relayed) ⊎ (status ≡ exit.OutOfMemory)
go_on labels relayed status fb fa size each ends = (elim (all_go labels relayed each) [
  | inl none ↦ inl (ends_clean (first_failed labels (answers relayed)) status fb fa ends none, all_clean labels relayed size none)
  | inr some ↦ inr (ends_six (first_failed labels (answers relayed)) some.0 status fb fa ends some.1 some.2)
])

-- ---- causes

-- a command ended as its relays did
pub cause_of_relays : (labels : List (List ℕ)) (relayed : List Relayed) (status : Status) (before after : DoorsState) (kb ka fb fa : SinkState) → Each IsBlamed relayed
    → CountsFaults before.faults (faults_among (returned relayed)) after.faults → after.refusals ≡ before.refusals → ka.faults ≡ kb.faults
    → EndsLike (first_failed labels (answers relayed)) status fb fa → HasOpeningCause status before after kb ka
cause_of_relays labels relayed status before after kb ka fb fa each counted refusals unfailed ends =
    let other = ends_as (first_failed labels (answers relayed)) status fb fa ends in
    record {
      few = other.0;
      refused = λ is. absurd (other.1 is);
      shows_refused = λ rose. absurd (omega (arith, rose, refusals));
      read_fault = λ is. counted.risen (some_failed labels relayed each (faulty (first_failed labels (answers relayed)) status fb fa ends (inl is)));
      write_fault = λ is. inr (counted.risen (some_failed labels relayed each (faulty (first_failed labels (answers relayed)) status fb fa ends (inr is))));
      sink_failed = λ rose. absurd (omega (arith, rose, unfailed));
    }

-- its sink failed
pub cause_broken_off : (status : Status) (before after : DoorsState) (kb ka : SinkState) → HasRisen kb.faults ka.faults → after.refusals ≡ before.refusals → status ≡ exit.WriteFault → HasOpeningCause status before after kb ka
cause_broken_off status before after kb ka risen refusals is = record {
  few = λ one. cc;
  refused = λ eight. absurd cc;
  shows_refused = λ rose. absurd (omega (arith, rose, refusals));
  read_fault = λ four. absurd cc;
  write_fault = λ five. inl risen;
  sink_failed = λ rose. is;
}

-- an opening was refused
pub cause_refused : (status : Status) (before after : DoorsState) (kb ka : SinkState) → HasRisen before.refusals after.refusals → status ≡ exit.DoorFault → ka.faults ≡ kb.faults → HasOpeningCause status before after kb ka
cause_refused status before after kb ka risen is unfailed = record {
  few = λ one. cc;
  refused = λ eight. risen;
  shows_refused = λ more. is;
  read_fault = λ four. absurd cc;
  write_fault = λ five. absurd cc;
  sink_failed = λ more. absurd (omega (arith, more, unfailed));
}

-- there was no memory for it
pub cause_without : (status : Status) (before after : DoorsState) (kb ka : SinkState) → after.refusals ≡ before.refusals → status ≡ exit.OutOfMemory → ka.faults ≡ kb.faults → HasOpeningCause status before after kb ka
cause_without status before after kb ka refusals is unfailed = record {
  few = λ one. cc;
  refused = λ eight. absurd cc;
  shows_refused = λ rose. absurd (omega (arith, rose, refusals));
  read_fault = λ four. absurd cc;
  write_fault = λ five. absurd cc;
  sink_failed = λ rose. absurd (omega (arith, rose, unfailed));
}
