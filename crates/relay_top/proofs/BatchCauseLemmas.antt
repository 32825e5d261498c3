-- What follows for a batch.
use Rattle.std.proofs.Common.{◌≡◌, ◌≢◌, ◌+◌, ◌⊎◌, ℕ, List, [], ◌∷◌, length, Option, Some, None, refl, ap, ◌∙◌, subst, arith, inl, inr, suc}
use Rattle.std.specs.Prelude.{IfSome}
use Rattle.std.specs.List.{All, AllZip}
use Rattle.std.proofs.lemmas.List.Elements.{All-head, All-tail}
use Rattle.edge_core.specs.Device.{HasNotRisen, SinkState}
use Rattle.edge_core.specs.Doors.{DoorsState, Told, content_of}
use Rattle.frame_grammar.specs.declared.job.Job.{Job}
use Rattle.relay_model.specs.declared.status.Status.{Status}
use Rattle.relay_model.specs.declared.status.Status.TheVariants as exit
use Rattle.relay_model.specs.Answers.{IsBrokenOff, IsSummed, Relayed, Sums, answers, first_failed, returned}
use Rattle.relay_model.specs.Devices.{HandsBack, faults_among}
use Rattle.relay_model.specs.World.{World}
use Rattle.relay_top.specs.Batch.{Batches, CompletesBatch, HasLost, HasNoMemory, HasRelayed, IsRefused, IsRelayedOf, IsRelayedWhole, RelaysEach, RelaysName, RelaysNames, TranslatesName, TranslatesNames, bytes_of}
use Rattle.relay_top.specs.Opened.{HasOpeningCause, HasRelayedWhole, IsLawful}
use Rattle.relay_top.proofs.OpenedLemmas.{Caused, Completed, Each, HasNone, IsBlamed, IsClean, Translated, WholeWhereClean, all_clean, cause_broken_off, cause_of_relays, cause_refused, cause_without, clean_or_none, go_on, goes, is_blamed, none_failed, none_first, not_both, relays_whole, translates, whole_where_clean}

-- what holds of a name and of its relay, holds of each
each_name : (P Q : List ℕ → Relayed → Type 0) → ((name : List ℕ) (relayed : Relayed) → P name relayed → Q name relayed) → (names : List (List ℕ)) (relayed : List Relayed) → AllZip P names relayed → AllZip Q names relayed
each_name P Q f [] [] all = tt
each_name P Q f [] (r ∷ relayed) all = absurd all
each_name P Q f (name ∷ names) [] all = absurd all
each_name P Q f (name ∷ names) (r ∷ relayed) all = (f name r all.0, each_name P Q f names relayed all.1)

each_relay : (P : List ℕ → Relayed → Type 0) (Q : Relayed → Type 0) → ((name : List ℕ) (relayed : Relayed) → P name relayed → Q relayed) → (names : List (List ℕ)) (relayed : List Relayed) → AllZip P names relayed → Each Q relayed
each_relay P Q f [] [] all = tt
each_relay P Q f [] (r ∷ relayed) all = absurd all
each_relay P Q f (name ∷ names) [] all = absurd all
each_relay P Q f (name ∷ names) (r ∷ relayed) all = (f name r all.0, each_relay P Q f names relayed all.1)

each_with : (P Q : List ℕ → Relayed → Type 0) (R : Relayed → Type 0) → ((name : List ℕ) (relayed : Relayed) → P name relayed → R relayed → Q name relayed)
    → (names : List (List ℕ)) (relayed : List Relayed) → AllZip P names relayed → Each R relayed → AllZip Q names relayed
each_with P Q R f [] [] all each = tt
each_with P Q R f [] (r ∷ relayed) all each = absurd all
each_with P Q R f (name ∷ names) [] all each = absurd all
each_with P Q R f (name ∷ names) (r ∷ relayed) all each = (f name r all.0 each.0, each_with P Q R f names relayed all.1 each.1)

as_many : (P : List ℕ → Relayed → Type 0) (names : List (List ℕ)) (relayed : List Relayed) → AllZip P names relayed → length names ≡ length relayed
as_many P [] [] all = refl
as_many P [] (r ∷ relayed) all = absurd all
as_many P (name ∷ names) [] all = absurd all
as_many P (name ∷ names) (r ∷ relayed) all = ap (λ n. suc n) (as_many P names relayed all.1)

-- ---- causes

cause_relayed : Caused → (names : List (List ℕ)) (job : Job) (status : Status) (before after : DoorsState) (kb ka fb fa : SinkState) (relayed : List Relayed) → AllZip (IsRelayedOf before.told job) names relayed → HandsBack (returned relayed) before after
    → Sums names (answers relayed) status kb ka fb fa → HasOpeningCause status before after kb ka
cause_relayed law names job status before after kb ka fb fa relayed all back (IsSummed takes ends) =
    cause_of_relays names relayed status before after kb ka fb fa
    (each_relay (IsRelayedOf before.told job) IsBlamed (λ name r alone. is_blamed before.told job (bytes_of name) name r law alone.fresh alone.finishes) names relayed all)
    back.counted (ap (λ d. d.refusals) back.returned) takes.unfailed ends
cause_relayed law names job status before after kb ka fb fa relayed all back (IsBrokenOff written front is line) =
    cause_broken_off status before after kb ka front.risen (ap (λ d. d.refusals) back.returned) is

pub batch_caused : Caused → (names : List (List ℕ)) (first : ℕ) (job : Job) (status : Status) (was is : World) → Batches names first job status was is → HasOpeningCause status was.doors is.doors was.sink is.sink
batch_caused law names first job status was is (IsRefused opened alone unused some rose doors ended tells) = cause_refused status was.doors is.doors was.sink is.sink rose ended (ap (λ k. k.faults) tells.sink)
batch_caused law names first job status was is (HasNoMemory opened alone unused doors ended tells) = cause_without status was.doors is.doors was.sink is.sink (ap (λ d. d.refusals) doors) ended (ap (λ k. k.faults) tells.sink)
batch_caused law names first job status was is (HasLost doors ended tells) = cause_without status was.doors is.doors was.sink is.sink (ap (λ d. d.refusals) doors) ended (ap (λ k. k.faults) tells.sink)
batch_caused law names first job status was is (HasRelayed relayed all back kept sums) = cause_relayed law names job status was.doors is.doors was.sink is.sink was.faults is.faults relayed all back sums

-- no source is read
pub batch_reads_nothing : (names : List (List ℕ)) (first : ℕ) (job : Job) (status : Status) (was is : World) → Batches names first job status was is → is.source ≡ was.source
batch_reads_nothing names first job status was is (IsRefused opened alone unused some rose doors ended tells) = tells.source
batch_reads_nothing names first job status was is (HasNoMemory opened alone unused doors ended tells) = tells.source
batch_reads_nothing names first job status was is (HasLost doors ended tells) = tells.source
batch_reads_nothing names first job status was is (HasRelayed relayed all back kept sums) = kept

-- ---- translations

pub batch_translated : Translated → (names : List (List ℕ)) (first : ℕ) (job : Job) (status : Status) (was is : World) → Batches names first job status was is → TranslatesNames names job status was.doors is.doors
batch_translated law names first job status was is (IsRefused opened alone unused some rose doors ended tells) = λ refused memory. absurd (refused ended)
batch_translated law names first job status was is (HasNoMemory opened alone unused doors ended tells) = λ refused memory. absurd (memory ended)
batch_translated law names first job status was is (HasLost doors ended tells) = λ refused memory. absurd (memory ended)
batch_translated law names first job status was is (HasRelayed relayed all back kept sums) = λ refused memory.
    (relayed, each_name (IsRelayedOf was.doors.told job) (TranslatesName was.doors.told job) (λ name r alone. translates was.doors.told job (bytes_of name) name r law alone.fresh alone.finishes) names relayed all, back)

-- ---- a clean status

pub batch_whole : WholeWhereClean → (names : List (List ℕ)) (first : ℕ) (job : Job) (status : Status) (was is : World) → Batches names first job status was is → status ≡ exit.Clean → RelaysEach names job was.doors is.doors
batch_whole law names first job status was is (IsRefused opened alone unused some rose doors ended tells) clean = absurd cc
batch_whole law names first job status was is (HasNoMemory opened alone unused doors ended tells) clean = absurd cc
batch_whole law names first job status was is (HasLost doors ended tells) clean = absurd cc
batch_whole law names first job status was is (HasRelayed relayed all back kept sums) clean = by_sums sums
  where
    by_sums : Sums names (answers relayed) status was.sink is.sink was.faults is.faults → RelaysEach names job was.doors is.doors
    by_sums (IsBrokenOff written front ended line) = absurd cc
    by_sums (IsSummed takes ends) =
        let none = none_first names (answers relayed) (first_failed names (answers relayed)) status was.faults is.faults refl ends clean in
        let each = all_clean names relayed (as_many (IsRelayedOf was.doors.told job) names relayed all) none in
        (relayed, each_with (IsRelayedOf was.doors.told job) (RelaysName was.doors.told job) IsClean (λ name r alone clean. relays_whole was.doors.told job (bytes_of name) name r law alone.fresh alone.finishes clean) names relayed all each, back)

-- ---- completeness

-- each name is relayed whole, or there was no memory for it
abbrev Goes : Told → Job → List ℕ → Relayed → Type 0
Goes told job name relayed = IsRelayedOf (Some told) job name relayed × (HasRelayedWhole job (content_of name told.named) relayed ⊎ HasNone relayed)

each_goes : Completed → (told : Told) (job : Job) (names : List (List ℕ)) (relayed : List Relayed) → AllZip (IsRelayedOf (Some told) job) names relayed → All (λ name. IsLawful job (content_of name told.named)) names → faults_among (returned relayed) ≡ 0
    → AllZip (Goes told job) names relayed
each_goes law told job [] [] all lawful unfailed = tt
each_goes law told job [] (r ∷ relayed) all lawful unfailed = absurd all
each_goes law told job (name ∷ names) [] all lawful unfailed = absurd all
each_goes law told job (name ∷ names) (r ∷ relayed) all lawful unfailed =
    let here = goes law told job (bytes_of name) name r all.0.fresh all.0.finishes (All-head (λ name. IsLawful job (content_of name told.named)) name names lawful) (omega (arith, unfailed)) in
    ((all.0, here), each_goes law told job names relayed all.1 (All-tail (λ name. IsLawful job (content_of name told.named)) name names lawful) (omega (arith, unfailed)))

complete_relayed : Completed → (told : Told) (names : List (List ℕ)) (job : Job) (status : Status) (before after : DoorsState) (kb ka fb fa : SinkState) (relayed : List Relayed) → AllZip (IsRelayedOf (Some told) job) names relayed → HandsBack (returned relayed) before after
    → Sums names (answers relayed) status kb ka fb fa → HasNotRisen before.faults after.faults → HasNotRisen kb.faults ka.faults → All (λ name. IsLawful job (content_of name told.named)) names
    → ((status ≡ exit.Clean) × RelaysNames names job told before after kb ka) ⊎ (status ≡ exit.OutOfMemory)
complete_relayed law told names job status before after kb ka fb fa relayed all back (IsBrokenOff written front is line) devices sink lawful = absurd (not_both kb.faults ka.faults front.risen sink)
complete_relayed law told names job status before after kb ka fb fa relayed all back (IsSummed takes ends) devices sink lawful =
    let each = each_goes law told job names relayed all lawful (none_failed before.faults (faults_among (returned relayed)) after.faults back.counted devices) in
    (elim (go_on names relayed status fb fa (as_many (Goes told job) names relayed each) (each_relay (Goes told job) (λ one. IsClean one ⊎ HasNone one) (λ name r here. clean_or_none job (content_of name told.named) r here.1) names relayed each) ends) [
      | inl clean ↦ inl (
        clean.0,
        record {
          relayed = relayed;
          each = each_with (Goes told job) (IsRelayedWhole told job) IsClean (λ name r here clean. (here.0, whole_where_clean job (content_of name told.named) r here.1 clean)) names relayed each clean.1;
          back = back;
          lines = takes;
        },
      )
      | inr none ↦ inr none
    ])

pub batch_completed : Completed → (names : List (List ℕ)) (first : ℕ) (job : Job) (status : Status) (was is : World) → Batches names first job status was is → CompletesBatch names job status was.doors is.doors was.sink is.sink
batch_completed law names first job status was is batches refusals devices sink = by_told was.doors.told refl
  where
    by_told : (told : Option Told) → was.doors.told ≡ told → IfSome told (λ t. All (λ name. IsLawful job (content_of name t.named)) names → ((status ≡ exit.Clean) × RelaysNames names job t was.doors is.doors was.sink is.sink) ⊎ (status ≡ exit.OutOfMemory))
    by_told None same = tt
    by_told (Some told) same = λ lawful. by_batch batches lawful
      where
        by_batch : Batches names first job status was is → All (λ name. IsLawful job (content_of name told.named)) names → ((status ≡ exit.Clean) × RelaysNames names job told was.doors is.doors was.sink is.sink) ⊎ (status ≡ exit.OutOfMemory)
        by_batch (IsRefused opened alone unused some rose doors ended tells) lawful = absurd (not_both was.doors.refusals is.doors.refusals rose refusals)
        by_batch (HasNoMemory opened alone unused doors ended tells) lawful = inr ended
        by_batch (HasLost doors ended tells) lawful = inr ended
        by_batch (HasRelayed relayed all back kept sums) lawful =
            complete_relayed law told names job status was.doors is.doors was.sink is.sink was.faults is.faults relayed (subst (λ (t : Option Told). AllZip (IsRelayedOf t job) names relayed) same all) back sums devices sink lawful
