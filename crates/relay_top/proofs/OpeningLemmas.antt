-- What doors are once devices were opened and given back.
use Rattle.std.proofs.Common.{◌≡◌, ◌<◌, ◌≤◌, ◌+◌, ℕ, List, [], ◌∷◌, ◌++◌, length, Option, Some, None, refl, sym, ap, ◌∙◌, subst, arith, append_assoc, suc}
use Rattle.std.specs.Prelude.{map, IfSome, option_map}
use Rattle.std.specs.List.{AllZip, flat_map}
use Rattle.std.proofs.lemmas.List.{length-append, length-map, map-append}
use Rattle.edge_core.specs.Device.{HasRisen, SourceState}
use Rattle.edge_core.specs.Doors.{Device, DoorsState, FailsWith, OpensInlet, TakesBackInlet, Told, an_inlet, with_returned}
use Rattle.edge_core.specs.declared.doors.DoorError.{DoorError}
use Rattle.edge_core.specs.declared.doors.DoorError.TheVariants.{Failed, OutOfMemory}
use Rattle.relay_model.proofs.DevicesLemmas.{back_in_turn, came_back_then, doors_are, nothing_back, one_back}
use Rattle.relay_model.specs.Devices.{Devices, HasComeBack, both, faults_among, with_all, with_out, with_unused}
use Rattle.relay_top.specs.Batch.{AreFreshOf, HasFirst, IsFreshInletOf, unused}
use Rattle.relay_top.specs.Opening.{FailsBehind, IfFailed, OpensNotAll, RefusesOne}

-- ---- opening a name

-- what the refusal of the second left of the first, which came back
second_gone : (before between found after : DoorsState) (name : List ℕ) (inlet : SourceState) → OpensInlet before name inlet between → found ≡ record between { refusals = found.refusals } → TakesBackInlet found inlet after
    → (after.refusals ≡ found.refusals) × (after ≡ record (with_unused (an_inlet inlet ∷ []) before) { refusals = after.refusals })
second_gone before between found after name inlet first kept back =
    let refusals = ap (λ d. d.refusals) back.returned in (
      refusals,
      doors_are after after.refusals before.faults before.is_listening before.inlets_out before.outlets_out (option_map (with_all (an_inlet inlet ∷ [])) before.told)
          refl
          (back.counted.kept first.unfailed ∙ ap (λ d. d.faults) kept ∙ ap (λ d. d.faults) first.opened)
          (ap (λ d. d.is_listening) back.returned ∙ ap (λ d. d.is_listening) kept ∙ ap (λ d. d.is_listening) first.opened)
          (let back_in = ap (λ d. d.inlets_out) back.returned in let same = ap (λ d. d.inlets_out) kept in let more = ap (λ d. d.inlets_out) first.opened in omega (arith, back_in, same, more))
          (ap (λ d. d.outlets_out) back.returned ∙ ap (λ d. d.outlets_out) kept ∙ ap (λ d. d.outlets_out) first.opened)
          (ap (λ d. d.told) back.returned ∙ ap (λ d. option_map (with_returned (an_inlet inlet)) d.told) (kept ∙ ap (λ (d : DoorsState). record d { refusals = found.refusals }) first.opened) ∙ one_back (an_inlet inlet) before.told),
    )

pub second_refused : (before between found after : DoorsState) (name : List ℕ) (inlet : SourceState) (error : DoorError) → OpensInlet before name inlet between → FailsWith error between found → TakesBackInlet found inlet after → RefusesOne name error before after
second_refused before between found after name inlet Failed first fails back =
    let gone = second_gone before between found after name inlet first fails.kept back in
    record {
      alone = Some inlet;
      fresh = record { unfailed = first.unfailed; bytes = first.named };
      fails = (subst (λ n. HasRisen n after.refusals) (ap (λ d. d.refusals) first.opened) (subst (λ n. HasRisen between.refusals n) (sym gone.0) fails.risen), gone.1);
    }
second_refused before between found after name inlet OutOfMemory first fails back =
    let gone = second_gone before between found after name inlet first (subst (λ (d : DoorsState). found ≡ record d { refusals = found.refusals }) fails cc) back in
    record {
      alone = Some inlet;
      fresh = record { unfailed = first.unfailed; bytes = first.named };
      fails = gone.1 ∙ ap (λ n. record (with_unused (an_inlet inlet ∷ []) before) { refusals = n }) (gone.0 ∙ ap (λ d. d.refusals) (fails ∙ first.opened));
    }

-- ---- giving back

-- one more came back
pub one_more_back : {T : Type 0} (devices : T → Devices) (yielded : List T) (task : T) (before between after : DoorsState) → HasComeBack (map devices yielded) before between → HasComeBack (devices task ∷ []) between after
    → HasComeBack (map devices (yielded ++ task ∷ [])) before after
one_more_back devices yielded task before between after first second =
    subst (λ (xs : List Devices). HasComeBack xs before after) (sym (map-append devices yielded (task ∷ []))) (came_back_then before between after (map devices yielded) (devices task ∷ []) first second)

pub all_back : {T : Type 0} (devices : T → Devices) (yielded all : List T) (before after : DoorsState) → yielded ≡ all → HasComeBack (map devices yielded) before after → HasComeBack (map devices all) before after
all_back devices yielded all before after same back = subst (λ xs. HasComeBack (map devices xs) before after) same back

-- ---- not all were opened

pub same_length : {A B : Type 0} (R : A → B → Type 0) (xs : List A) (ys : List B) → AllZip R xs ys → length xs ≡ length ys
same_length R [] [] all = refl
same_length R [] (y ∷ ys) all = absurd all
same_length R (x ∷ xs) [] all = absurd all
same_length R (x ∷ xs) (y ∷ ys) all = ap (λ n. suc n) (same_length R xs ys all.1)

pub one_more : {A B : Type 0} (R : A → B → Type 0) (xs : List A) (ys : List B) (x : A) (y : B) → AllZip R xs ys → R x y → AllZip R (xs ++ x ∷ []) (ys ++ y ∷ [])
one_more R [] [] x y all r = (r, tt)
one_more R [] (z ∷ ys) x y all r = absurd all
one_more R (z ∷ xs) [] x y all r = absurd all
one_more R (z ∷ xs) (w ∷ ys) x y all r = (all.0, one_more R xs ys x y all.1 r)

pub mapped : {A B C : Type 0} (R : A → C → Type 0) (f : B → C) (xs : List A) (ys : List B) → AllZip (λ x y. R x (f y)) xs ys → AllZip R xs (map f ys)
mapped R f [] [] all = tt
mapped R f [] (y ∷ ys) all = absurd all
mapped R f (x ∷ xs) [] all = absurd all
mapped R f (x ∷ xs) (y ∷ ys) all = (all.0, mapped R f xs ys all.1)

no_faults : (told : Option Told) (names : List (List ℕ)) (devices : List Devices) → AllZip (AreFreshOf told) names devices → faults_among (flat_map both devices) ≡ 0
no_faults told [] [] all = refl
no_faults told [] (d ∷ devices) all = absurd all
no_faults told (name ∷ names) [] all = absurd all
no_faults told (name ∷ names) (d ∷ devices) all = let rest = no_faults told names devices all.1 in omega (arith, rest, all.0.inlet.unfailed, all.0.outlet_unfailed)

-- what one name whose opening was refused left
refused_as : (error : DoorError) (alone : Option SourceState) (before after : DoorsState) → FailsBehind error [] alone before after → after ≡ record (with_unused (unused [] alone) before) { refusals = after.refusals }
refused_as Failed alone before after fails = fails.1
refused_as OutOfMemory alone before after fails = fails ∙ ap (λ n. record (with_unused (unused [] alone) before) { refusals = n }) (sym (ap (λ d. d.refusals) fails))

pub still_out : (name : List ℕ) (error : DoorError) (before after : DoorsState) → RefusesOne name error before after → (after.inlets_out ≡ before.inlets_out) × (after.outlets_out ≡ before.outlets_out)
still_out name error before after one = let is = refused_as error one.alone before after one.fails in (ap (λ d. d.inlets_out) is, ap (λ d. d.outlets_out) is)

unused_on : (devices : List Devices) (alone : Option SourceState) → unused [] alone ++ flat_map both devices ≡ unused devices alone
unused_on devices None = refl
unused_on devices (Some inlet) = refl

first_of : (P : List ℕ → SourceState → Type 0) (name : List ℕ) (rest : List (List ℕ)) (alone : Option SourceState) → IfSome alone (λ inlet. P name inlet) → IfSome alone (λ inlet. HasFirst (λ n. P n inlet) (name ∷ rest))
first_of P name rest None fresh = tt
first_of P name rest (Some inlet) fresh = fresh

record Left (before between found after : DoorsState) (devices : List Devices) (alone : Option SourceState) : Type 0 where
  pub refusals : after.refusals ≡ found.refusals
  pub refusals_before : between.refusals ≡ before.refusals
  pub is : after ≡ record (with_unused (unused devices alone) before) { refusals = after.refusals }

left_by : (before between found after : DoorsState) (done : List (List ℕ)) (devices : List Devices) (alone : Option SourceState) → AllZip (AreFreshOf before.told) done devices → between ≡ with_out (length done) before
    → found ≡ record (with_unused (unused [] alone) between) { refusals = found.refusals } → HasComeBack devices found after → Left before between found after devices alone
left_by before between found after done devices alone fresh opened refused back =
    let none = no_faults before.told done devices fresh in
    let size = same_length (AreFreshOf before.told) done devices fresh in
    record {
      refusals = ap (λ d. d.refusals) back.returned;
      refusals_before = ap (λ d. d.refusals) opened;
      is = doors_are after after.refusals before.faults before.is_listening before.inlets_out before.outlets_out (option_map (with_all (unused devices alone)) before.told)
          refl
          (back.counted.kept none ∙ ap (λ d. d.faults) refused ∙ ap (λ d. d.faults) opened)
          (ap (λ d. d.is_listening) back.returned ∙ ap (λ d. d.is_listening) refused ∙ ap (λ d. d.is_listening) opened)
          (let b = ap (λ d. d.inlets_out) back.returned in let r = ap (λ d. d.inlets_out) refused in let o = ap (λ d. d.inlets_out) opened in omega (arith, b, r, o, size))
          (let b = ap (λ d. d.outlets_out) back.returned in let r = ap (λ d. d.outlets_out) refused in let o = ap (λ d. d.outlets_out) opened in omega (arith, b, r, o, size))
          (ap (λ d. d.told) back.returned
          ∙ ap (λ (t : Option Told). option_map (with_all (flat_map both devices)) t) (ap (λ d. d.told) refused ∙ ap (λ (d : DoorsState). option_map (with_all (unused [] alone)) d.told) opened)
          ∙ back_in_turn (unused [] alone) (flat_map both devices) before.told
          ∙ ap (λ (xs : List Device). option_map (with_all xs) before.told) (unused_on devices alone));
    }

fails_on : (error : DoorError) (before between found after : DoorsState) (devices : List Devices) (alone : Option SourceState) → FailsBehind error [] alone between found → Left before between found after devices alone → FailsBehind error devices alone before after
fails_on Failed before between found after devices alone fails left =
    (subst (λ n. HasRisen n after.refusals) left.refusals_before (subst (λ n. HasRisen between.refusals n) (sym left.refusals) fails.0), left.is)
fails_on OutOfMemory before between found after devices alone fails left =
    left.is ∙ ap (λ n. record (with_unused (unused devices alone) before) { refusals = n }) (left.refusals ∙ ap (λ d. d.refusals) fails ∙ left.refusals_before)

some_left : (error : DoorError) (names done rest : List (List ℕ)) (name : List ℕ) (n : ℕ) → names ≡ done ++ name ∷ rest → length done ≡ n → IfFailed error (n < length names)
some_left Failed names done rest name n parts size = let all = ap length parts ∙ length-append done (name ∷ rest) in omega (arith, all, size)
some_left OutOfMemory names done rest name n parts size = tt

pub refused_behind : (names done rest : List (List ℕ)) (name : List ℕ) (error : DoorError) (count : ℕ) (devices : List Devices) (before between found after : DoorsState) → names ≡ done ++ name ∷ rest → AllZip (AreFreshOf before.told) done devices
    → between ≡ with_out (length done) before → RefusesOne name error between found → HasComeBack devices found after → count ≡ length devices → OpensNotAll names error count before after
refused_behind names done rest name error count devices before between found after parts fresh opened one back size = record {
  opened = devices;
  alone = one.alone;
  unused = record {
    done = done;
    rest = name ∷ rest;
    parts = parts;
    fresh = fresh;
    next = first_of (IsFreshInletOf before.told) name rest one.alone (subst (λ (t : Option Told). IfSome one.alone (λ inlet. IsFreshInletOf t name inlet)) (ap (λ d. d.told) opened) one.fresh);
  };
  behind = size;
  some = some_left error names done rest name (length devices) parts (same_length (AreFreshOf before.told) done devices fresh);
  fails = fails_on error before between found after devices one.alone one.fails
      (left_by before between found after done devices one.alone fresh opened (refused_as error one.alone between found one.fails) back);
}

pub refused_at_once : (names : List (List ℕ)) (before : DoorsState) → OpensNotAll names OutOfMemory 0 before before
refused_at_once names before = record {
  opened = [];
  alone = None;
  unused = record { done = []; rest = names; parts = refl; fresh = tt; next = tt };
  behind = refl;
  some = tt;
  fails = ap (λ (t : Option Told). record before { told = t }) (sym (nothing_back before.told));
}

-- one name more is open
pub out_more : (n : ℕ) (before between after : DoorsState) → between ≡ with_out n before → after ≡ with_out 1 between → after ≡ with_out (n + 1) before
out_more n before between after first second =
    doors_are after before.refusals before.faults before.is_listening (before.inlets_out + (n + 1)) (before.outlets_out + (n + 1)) before.told
    (ap (λ d. d.refusals) second ∙ ap (λ d. d.refusals) first)
    (ap (λ d. d.faults) second ∙ ap (λ d. d.faults) first)
    (ap (λ d. d.is_listening) second ∙ ap (λ d. d.is_listening) first)
    (let s = ap (λ d. d.inlets_out) second in let f = ap (λ d. d.inlets_out) first in omega (arith, s, f))
    (let s = ap (λ d. d.outlets_out) second in let f = ap (λ d. d.outlets_out) first in omega (arith, s, f))
    (ap (λ d. d.told) second ∙ ap (λ d. d.told) first)

-- ---- going through the names

module _ {S T : Type 0} (bytes : S → List ℕ) (devices : T → Devices) (names done rest behind : List S) (name : S) (text : List ℕ) (tasks : List T) (before between : DoorsState) where
  abbrev AreOpen : List (List ℕ) → List T → Type 0
  AreOpen texts opened = AllZip (λ n t. AreFreshOf before.told n (devices t)) texts opened

  texts_on : names ≡ done ++ rest → rest ≡ name ∷ behind → text ≡ bytes name → map bytes names ≡ map bytes done ++ text ∷ map bytes behind
  texts_on parts first is = ap (λ xs. map bytes xs) (parts ∙ ap (λ xs. done ++ xs) first) ∙ map-append bytes done (name ∷ behind) ∙ ap (λ (x : List ℕ). map bytes done ++ x ∷ map bytes behind) (sym is)

  pub opened_on : (task : T) (opened : List T) (after : DoorsState) → names ≡ done ++ rest → rest ≡ name ∷ behind → text ≡ bytes name → AreOpen (map bytes done) tasks → between ≡ with_out (length done) before
      → AreFreshOf between.told text (devices task) → after ≡ with_out 1 between → opened ≡ tasks ++ task ∷ []
      → (through : List S) × (names ≡ through ++ behind) × AreOpen (map bytes through) opened × (after ≡ with_out (length through) before)
  opened_on task opened after parts first is are out fresh more pushed = (
    done ++ name ∷ [],
    parts ∙ ap (λ xs. done ++ xs) first ∙ sym (append_assoc done (name ∷ []) behind),
    subst (λ (ts : List T). AreOpen (map bytes (done ++ name ∷ [])) ts) (sym pushed)
        (subst (λ (xs : List (List ℕ)). AreOpen xs (tasks ++ task ∷ [])) (sym (map-append bytes done (name ∷ [])))
        (one_more (λ n t. AreFreshOf before.told n (devices t)) (map bytes done) tasks (bytes name) task are
        (subst (λ (x : List ℕ). AreFreshOf before.told x (devices task)) is (subst (λ (t : Option Told). AreFreshOf t text (devices task)) (ap (λ d. d.told) out) fresh)))),
    out_more (length done) before between after out more ∙ ap (λ n. with_out n before) (sym (length-append done (name ∷ []))),
  )

  pub refused_on : (error : DoorError) (count : ℕ) (found after : DoorsState) → names ≡ done ++ rest → rest ≡ name ∷ behind → text ≡ bytes name → AreOpen (map bytes done) tasks → between ≡ with_out (length done) before
      → RefusesOne text error between found → HasComeBack (map devices tasks) found after → count ≡ length tasks → OpensNotAll (map bytes names) error count before after
  refused_on error count found after parts first is are out one back size =
      refused_behind (map bytes names) (map bytes done) (map bytes behind) text error count (map devices tasks) before between found after (texts_on parts first is)
      (mapped (AreFreshOf before.told) devices (map bytes done) tasks are) (out ∙ ap (λ n. with_out n before) (sym (length-map done bytes))) one back (size ∙ sym (length-map tasks devices))

  pub enough_out : (error : DoorError) (found : DoorsState) → AreOpen (map bytes done) tasks → between ≡ with_out (length done) before → RefusesOne text error between found
      → (length tasks ≤ found.inlets_out) × (length tasks ≤ found.outlets_out)
  enough_out error found are out one =
      let same = still_out text error between found one in
      let size = same_length (λ n t. AreFreshOf before.told n (devices t)) (map bytes done) tasks are in
      let mapped_size = length-map done bytes in
      let inlets = ap (λ d. d.inlets_out) out in
      let outlets = ap (λ d. d.outlets_out) out in
      (omega (arith, same.0, size, mapped_size, inlets), omega (arith, same.1, size, mapped_size, outlets))
