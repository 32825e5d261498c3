-- What follows for a server.
use Rattle.std.proofs.Common.{◌≡◌, ◌≢◌, ◌<◌, ◌≤◌, ◌+◌, ◌⊎◌, ℕ, List, [], ◌∷◌, length, Option, Some, None, refl, sym, ap, ◌∙◌, subst, arith, inl, inr, suc}
use Rattle.std.specs.Prelude.{IfSome, option_map}
use Rattle.edge_core.specs.Device.{HasNotRisen, HasRisen, SinkState, Takes}
use Rattle.edge_core.specs.Doors.{DoorsState, FailsWith, Told}
use Rattle.edge_core.specs.declared.doors.DoorError.{DoorError}
use Rattle.edge_core.specs.declared.doors.DoorError.TheVariants.{Failed, OutOfMemory}
use Rattle.frame_grammar.specs.declared.job.Job.{Job}
use Rattle.relay_model.specs.declared.status.Status.{Status}
use Rattle.relay_model.specs.declared.status.Status.TheVariants as exit
use Rattle.relay_model.specs.Answers.{Answer, EndsLike, Relayed, answers, first_failed, returned}
use Rattle.relay_model.specs.Devices.{faults_among}
use Rattle.relay_model.specs.World.{World}
use Rattle.relay_threads.specs.Serve.{AreServed, FailsToServe, HasServed, IsBrokenOff, IsDeaf, IsNotAccepted, IsNotConnected, IsRefused, IsServed, IsServedAll, IsTold, Serves, bytes_behind, labelled, listening, numbers, served_lines}
use Rattle.relay_threads.specs.declared.serve_end.Ending.{Ending}
use Rattle.relay_threads.specs.declared.serve_end.Ending.TheVariants as served
use Rattle.relay_threads.specs.declared.serve_end.ServeEnd.{ServeEnd}
use Rattle.relay_threads.specs.declared.serve_end.Numbered.{Numbered}
use Rattle.relay_top.specs.Opened.{HasOpeningCause, HasRelayedWhole, IsLawful, RelaysOpened, TranslatesOpened}
use Rattle.relay_top.specs.Serving.{CompletesServing, EachFrom, IsCutOff, IsServedSoFar, IsShut, RelaysCount, ServesAt, ServesWhole, TranslatesEach, status_of_end}
use Rattle.relay_top.proofs.OpenedLemmas.{Caused, Completed, Each, HasNone, IsBlamed, IsClean, Translated, WholeWhereClean, all_clean, cause_broken_off, cause_of_relays, cause_refused, cause_without, clean_or_none, go_on, goes, is_blamed, none_failed, none_first, not_both, relays_whole, translates, whole_where_clean}

-- ---- connections

module _ (job : Job) (target : List ℕ) (told : Option Told) where
  -- what holds of a connection that was served, holds of each
  each_from : (P : ℕ → Relayed → Type 0) → ((k : ℕ) (one : Relayed) → IsServed job target told k one → P k one) → (k : ℕ) (relayed : List Relayed) → AreServed job target told k relayed → EachFrom P k relayed
  each_from P f k [] all = tt
  each_from P f k (one ∷ others) all = (f k one all.0, each_from P f (suc k) others all.1)

  each_one : (Q : Relayed → Type 0) → ((k : ℕ) (one : Relayed) → IsServed job target told k one → Q one) → (k : ℕ) (relayed : List Relayed) → AreServed job target told k relayed → Each Q relayed
  each_one Q f k [] all = tt
  each_one Q f k (one ∷ others) all = (f k one all.0, each_one Q f (suc k) others all.1)

  each_blamed : Caused → (k : ℕ) (relayed : List Relayed) → AreServed job target told k relayed → Each IsBlamed relayed
  each_blamed law k relayed all = each_one IsBlamed (λ k one here. is_blamed told job (bytes_behind k) target one law here.fresh here.finishes) k relayed all

  each_translates : Translated → (k : ℕ) (relayed : List Relayed) → AreServed job target told k relayed → EachFrom (λ k. TranslatesOpened told job (bytes_behind k) target) k relayed
  each_translates law k relayed all = each_from (λ k. TranslatesOpened told job (bytes_behind k) target) (λ k one here. translates told job (bytes_behind k) target one law here.fresh here.finishes) k relayed all

from_with : (P Q : ℕ → Relayed → Type 0) (R : Relayed → Type 0) → ((k : ℕ) (one : Relayed) → P k one → R one → Q k one) → (k : ℕ) (relayed : List Relayed) → EachFrom P k relayed → Each R relayed → EachFrom Q k relayed
from_with P Q R f k [] all each = tt
from_with P Q R f k (one ∷ others) all each = (f k one all.0 each.0, from_with P Q R f (suc k) others all.1 each.1)

each_of : (P : ℕ → Relayed → Type 0) (R : Relayed → Type 0) → ((k : ℕ) (one : Relayed) → P k one → R one) → (k : ℕ) (relayed : List Relayed) → EachFrom P k relayed → Each R relayed
each_of P R f k [] all = tt
each_of P R f k (one ∷ others) all = (f k one all.0, each_of P R f (suc k) others all.1)

as_many : (n : ℕ) (relayed : List Relayed) → length (numbers n relayed) ≡ length relayed
as_many n [] = refl
as_many n (one ∷ others) = ap (λ m. suc m) (as_many (suc n) others)

-- ---- how it ended

-- the status of an opening that didn't succeed
abbrev Stops : DoorError → Status → Type 0
Stops Failed status = status ≡ exit.DoorFault
Stops OutOfMemory status = status ≡ exit.OutOfMemory

stops : (error : DoorError) (word : ℕ) (status : Status) (end : ServeEnd) (fb fa : SinkState) → status ≡ status_of_end end → IsTold (served.Refused error word) end fb fa → Stops error status
stops Failed word status end fb fa ended told = ended ∙ ap status_of_end told.0
stops OutOfMemory word status end fb fa ended told = ended ∙ ap status_of_end told.0

no_stop : (error : DoorError) (status : Status) → Stops error status → status ≢ exit.DoorFault → status ≢ exit.OutOfMemory → ⊥
no_stop Failed status stops door memory = door stops
no_stop OutOfMemory status stops door memory = memory stops

no_clean_stop : (error : DoorError) (status : Status) → Stops error status → status ≡ exit.Clean → ⊥
no_clean_stop Failed status stops clean = cc
no_clean_stop OutOfMemory status stops clean = cc

broken : (written : ℕ) (status : Status) (end : ServeEnd) (fb fa : SinkState) → status ≡ status_of_end end → IsTold (served.BrokenOff written) end fb fa → status ≡ exit.WriteFault
broken written status end fb fa ended told = ended ∙ ap status_of_end told.0

like_first : (failed : Option Numbered) (first : Option (List ℕ × Answer)) (status : Status) (end : ServeEnd) (fb fa : SinkState) → option_map labelled failed ≡ first → status ≡ status_of_end end → IsTold (served.AllServed failed) end fb fa → EndsLike first status fb fa
like_first failed first status end fb fa same ended told =
    subst (λ (s : Status). EndsLike first s fb fa) (sym (ended ∙ ap status_of_end told.1))
    (subst (λ (o : Option (List ℕ × Answer)). EndsLike o told.0 fb fa) same told.2)

-- ---- doors that refused

-- the refusals, where an opening didn't succeed
abbrev Counts : DoorError → ℕ → ℕ → Type 0
Counts Failed before after = HasRisen before after
Counts OutOfMemory before after = after ≡ before

counts : (error : DoorError) (before after : DoorsState) → FailsWith error before after → Counts error before.refusals after.refusals
counts Failed before after fails = fails.risen
counts OutOfMemory before after fails = ap (λ d. d.refusals) fails

counts_next : (error : DoorError) (word : ℕ) (before after : DoorsState) → FailsToServe error word before after → Counts error before.refusals after.refusals
counts_next error word before after (IsNotAccepted is fails) = counts error before after fails
counts_next error word before after (IsNotConnected is inlet fresh fails) = counts error _ after fails

cause_stopped : (error : DoorError) (status : Status) (before after : DoorsState) (kb ka : SinkState) → Counts error before.refusals after.refusals → Stops error status → ka.faults ≡ kb.faults → HasOpeningCause status before after kb ka
cause_stopped Failed status before after kb ka counted stopped unfailed = cause_refused status before after kb ka counted stopped unfailed
cause_stopped OutOfMemory status before after kb ka counted stopped unfailed = cause_without status before after kb ka counted stopped unfailed

-- ---- the command

module _ (target : List ℕ) (count : ℕ) (job : Job) (status : Status) (was is : World) where
  abbrev As : Ending → Type 0
  As ending = Serves job target count ending was.doors is.doors was.sink is.sink

  module _ (end : ServeEnd) (ended : status ≡ status_of_end end) where
    told_as : (ending other : Ending) → ending ≡ other → IsTold ending end was.faults is.faults → IsTold other end was.faults is.faults
    told_as ending other same told = subst (λ (x : Ending). IsTold x end was.faults is.faults) same told

    stopped : (ending : Ending) (error : DoorError) (word : ℕ) → ending ≡ served.Refused error word → IsTold ending end was.faults is.faults → Stops error status
    stopped ending error word same told = stops error word status end was.faults is.faults ended (told_as ending (served.Refused error word) same told)

    broke : (ending : Ending) (written : ℕ) → ending ≡ served.BrokenOff written → IsTold ending end was.faults is.faults → status ≡ exit.WriteFault
    broke ending written same told = broken written status end was.faults is.faults ended (told_as ending (served.BrokenOff written) same told)

    as_first : (ending : Ending) (failed : Option Numbered) (relayed : List Relayed) → option_map labelled failed ≡ first_failed (numbers 1 relayed) (answers relayed) → ending ≡ served.AllServed failed → IsTold ending end was.faults is.faults
        → EndsLike (first_failed (numbers 1 relayed) (answers relayed)) status was.faults is.faults
    as_first ending failed relayed first same told = like_first failed (first_failed (numbers 1 relayed) (answers relayed)) status end was.faults is.faults first ended (told_as ending (served.AllServed failed) same told)

    causes : Caused → (ending : Ending) → IsTold ending end was.faults is.faults → As ending → HasOpeningCause status was.doors is.doors was.sink is.sink
    causes law ending told (IsDeaf error fails kept same) =
        cause_stopped error status was.doors is.doors was.sink is.sink (counts error was.doors is.doors fails) (stopped ending error 1 same told) (ap (λ k. k.faults) kept)
    causes law ending told (IsRefused relayed fewer between has error word fails takes same) =
        let refusals : between.refusals ≡ was.doors.refusals = ap (λ d. d.refusals) has.back.returned in
        cause_stopped error status was.doors is.doors was.sink is.sink (subst (λ n. Counts error n is.doors.refusals) refusals (counts_next error word between is.doors fails)) (stopped ending error word same told) takes.unfailed
    causes law ending told (IsBrokenOff relayed most has written front same) =
        cause_broken_off status was.doors is.doors was.sink is.sink front.risen (ap (λ d. d.refusals) has.back.returned) (broke ending written same told)
    causes law ending told (IsServedAll relayed many has takes failed first same) =
        cause_of_relays (numbers 1 relayed) relayed status was.doors is.doors was.sink is.sink was.faults is.faults (each_blamed job target was.doors.told law 0 relayed has.each)
        has.back.counted (ap (λ d. d.refusals) has.back.returned) takes.unfailed (as_first ending failed relayed first same told)

    translate : Translated → (ending : Ending) → IsTold ending end was.faults is.faults → As ending → TranslatesEach target count job status was.doors is.doors was.sink is.sink
    translate law ending told (IsDeaf error fails kept same) = record {
      relayed = [];
      each = tt;
      doors = IsShut refl error fails;
      all = λ door memory sink. absurd (no_stop error status (stopped ending error 1 same told) door memory);
    }
    translate law ending told (IsRefused relayed fewer between has error word fails takes same) = record {
      relayed = relayed;
      each = each_translates job target was.doors.told law 0 relayed has.each;
      doors = IsCutOff between has.back error word fails;
      all = λ door memory sink. absurd (no_stop error status (stopped ending error word same told) door memory);
    }
    translate law ending told (IsBrokenOff relayed most has written front same) = record {
      relayed = relayed;
      each = each_translates job target was.doors.told law 0 relayed has.each;
      doors = IsServedSoFar has.back;
      all = λ door memory sink. absurd (not_both was.sink.faults is.sink.faults front.risen sink);
    }
    translate law ending told (IsServedAll relayed many has takes failed first same) = record {
      relayed = relayed;
      each = each_translates job target was.doors.told law 0 relayed has.each;
      doors = IsServedSoFar has.back;
      all = λ door memory sink. many;
    }

    all_whole : WholeWhereClean → (ending : Ending) → IsTold ending end was.faults is.faults → As ending → status ≡ exit.Clean → RelaysCount target count job was.doors is.doors
    all_whole law ending told (IsDeaf error fails kept same) clean = absurd (no_clean_stop error status (stopped ending error 1 same told) clean)
    all_whole law ending told (IsRefused relayed fewer between has error word fails takes same) clean = absurd (no_clean_stop error status (stopped ending error word same told) clean)
    all_whole law ending told (IsBrokenOff relayed most has written front same) clean = absurd (let failed = broke ending written same told in cc)
    all_whole law ending told (IsServedAll relayed many has takes failed first same) clean =
        let ends = as_first ending failed relayed first same told in
        let none = none_first (numbers 1 relayed) (answers relayed) (first_failed (numbers 1 relayed) (answers relayed)) status was.faults is.faults refl ends clean in
        let each = all_clean (numbers 1 relayed) relayed (as_many 1 relayed) none in (
          relayed,
          many,
          from_with (IsServed job target was.doors.told) (λ k. RelaysOpened was.doors.told job (bytes_behind k) target) IsClean (λ k one here clean. relays_whole was.doors.told job (bytes_behind k) target one law here.fresh here.finishes clean) 0 relayed
              (each_from job target was.doors.told (IsServed job target was.doors.told) (λ k one here. here) 0 relayed has.each) each,
          has.back,
        )

  pub serve_caused : Caused → ServesAt target count job status was is → HasOpeningCause status was.doors is.doors was.sink is.sink
  serve_caused law serves = causes serves.end serves.ended law serves.ending serves.told serves.served

  pub serve_translated : Translated → ServesAt target count job status was is → TranslatesEach target count job status was.doors is.doors was.sink is.sink
  serve_translated law serves = translate serves.end serves.ended law serves.ending serves.told serves.served

  pub serve_whole : WholeWhereClean → ServesAt target count job status was is → status ≡ exit.Clean → RelaysCount target count job was.doors is.doors
  serve_whole law serves clean = all_whole serves.end serves.ended law serves.ending serves.told serves.served clean

-- ---- completeness

-- each connection is relayed whole, or there was no memory for it
abbrev Goes : Job → List ℕ → Told → ℕ → Relayed → Type 0
Goes job target told k one = IsServed job target (Some told) k one × (HasRelayedWhole job (bytes_behind k told) one ⊎ HasNone one)

each_goes : Completed → (job : Job) (target : List ℕ) (told : Told) (count k : ℕ) (relayed : List Relayed) → k + length relayed ≡ count → AreServed job target (Some told) k relayed
    → ((k : ℕ) → k < count → IsLawful job (bytes_behind k told)) → faults_among (returned relayed) ≡ 0 → EachFrom (Goes job target told) k relayed
each_goes law job target told count k [] many all lawful unfailed = tt
each_goes law job target told count k (one ∷ others) many all lawful unfailed =
    let here = goes law told job (bytes_behind k) target one all.0.fresh all.0.finishes (lawful k (omega (arith, many))) (omega (arith, unfailed)) in
    ((all.0, here), each_goes law job target told count (suc k) others (omega (arith, many)) all.1 lawful (omega (arith, unfailed)))

module _ (target : List ℕ) (count : ℕ) (job : Job) (status : Status) (was is : World) where
  abbrev Completes : Told → Type 0
  Completes told = ((k : ℕ) → k < count → IsLawful job (bytes_behind k told)) → ((status ≡ exit.Clean) × ServesWhole target count job told was.doors is.doors was.sink is.sink) ⊎ (status ≡ exit.OutOfMemory)

  no_refusal : (error : DoorError) → Counts error was.doors.refusals is.doors.refusals → Stops error status → HasNotRisen was.doors.refusals is.doors.refusals → status ≡ exit.OutOfMemory
  no_refusal Failed counted stopped stays = absurd (not_both was.doors.refusals is.doors.refusals counted stays)
  no_refusal OutOfMemory counted stopped stays = stopped

  complete_all : Completed → (told : Told) (relayed : List Relayed) → length relayed ≡ count → HasServed job target relayed (listening was.doors) is.doors → AreServed job target (Some told) 0 relayed
      → Takes was.sink (served_lines relayed) is.sink → EndsLike (first_failed (numbers 1 relayed) (answers relayed)) status was.faults is.faults → HasNotRisen was.doors.faults is.doors.faults → Completes told
  complete_all law told relayed many has all takes ends devices lawful =
      let each = each_goes law job target told count 0 relayed (omega (arith, many)) all lawful (none_failed was.doors.faults (faults_among (returned relayed)) is.doors.faults has.back.counted devices) in
      (elim (go_on (numbers 1 relayed) relayed status was.faults is.faults (as_many 1 relayed) (each_of (Goes job target told) (λ one. IsClean one ⊎ HasNone one) (λ k one here. clean_or_none job (bytes_behind k told) one here.1) 0 relayed each) ends) [
        | inl clean ↦ inl (
          clean.0,
          record {
            relayed = relayed;
            many = many;
            each = from_with (Goes job target told) (λ k one. IsServed job target (Some told) k one × HasRelayedWhole job (bytes_behind k told) one) IsClean (λ k one here clean. (here.0, whole_where_clean job (bytes_behind k told) one here.1 clean)) 0 relayed each clean.1;
            back = has.back;
            lines = takes;
          },
        )
        | inr none ↦ inr none
      ])

  pub serve_completed : Completed → ServesAt target count job status was is → CompletesServing target count job status was.doors is.doors was.sink is.sink
  serve_completed law serves refusals devices sink = by_told was.doors.told refl
    where
      by_told : (told : Option Told) → was.doors.told ≡ told → IfSome told Completes
      by_told None same = tt
      by_told (Some told) same = λ lawful. by_end serves.ending serves.told serves.served lawful
        where
          by_end : (ending : Ending) → IsTold ending serves.end was.faults is.faults → Serves job target count ending was.doors is.doors was.sink is.sink → Completes told
          by_end ending line (IsDeaf error fails kept like) lawful =
              inr (no_refusal error (counts error was.doors is.doors fails) (stopped target count job status was is serves.end serves.ended ending error 1 like line) refusals)
          by_end ending line (IsRefused relayed fewer between has error word fails takes like) lawful =
              let before : between.refusals ≡ was.doors.refusals = ap (λ d. d.refusals) has.back.returned in
              inr (no_refusal error (subst (λ n. Counts error n is.doors.refusals) before (counts_next error word between is.doors fails)) (stopped target count job status was is serves.end serves.ended ending error word like line) refusals)
          by_end ending line (IsBrokenOff relayed most has written front like) lawful = absurd (not_both was.sink.faults is.sink.faults front.risen sink)
          by_end ending line (IsServedAll relayed many has takes failed first like) lawful =
              complete_all law told relayed many has (subst (λ (t : Option Told). AreServed job target t 0 relayed) same has.each) takes (as_first target count job status was is serves.end serves.ended ending failed relayed first like line) devices lawful
