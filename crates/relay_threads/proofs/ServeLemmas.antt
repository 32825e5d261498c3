-- One connection behind the other.
use Rattle.std.proofs.Common.{◌≡◌, ◌<◌, ◌≤◌, ◌+◌, ◌*◌, ℕ, zero, suc, Bool, true, false, List, [], ◌∷◌, ◌++◌, length, drop, Option, Some, None, IfSome, refl, sym, ap, ◌∙◌, subst, append_assoc, append-nil, arith, if◌then◌else◌}
use Rattle.std.specs.Prelude.{decimal, option_map, slice_get}
use Rattle.std.specs.Io.KnownBytes.{Appends, Keeps}
use Rattle.std.proofs.lemmas.List.{length-append}
use Rattle.std.proofs.lemmas.Grind.{flat_map-append}
use Rattle.std.proofs.KnownBytes.{Appends-nil}
use Rattle.edge_core.specs.Device.{HasRisen, SinkFails, SinkState, SourceState, Takes, TakesFront}
use Rattle.edge_core.specs.Doors.{Accepts, CountsFaults, Device, DoorsState, FailsWith, HasBytes, Listens, OpensOutlet, TakesBackInlet, Told, an_inlet}
use Rattle.edge_core.specs.declared.doors.DoorError.{DoorError}
use Rattle.edge_core.specs.declared.doors.DoorError.TheVariants.{Failed, OutOfMemory}
use Rattle.edge_core.proofs.DeviceLemmas.{Takes-trans, front_behind}
use Rattle.frame_grammar.specs.declared.job.Job.{Job}
use Rattle.relay_model.specs.Answers.{Answer, Finishes, Relayed, answer_line, answer_lines, answers, first_failed, returned, status_of_answer}
use Rattle.relay_model.specs.Devices.{HasComeBack, both, devices_of, faults_among, with_all, with_unused}
use Rattle.relay_model.specs.Status.{is_clean}
use Rattle.relay_model.proofs.DevicesLemmas.{counts_both, doors_are, faults_among-append, one_back}
use Rattle.seg_pool.specs.declared.books.PassBooks.{PassBooks}
use Rattle.seg_pool.specs.Words.{Adds}
use Rattle.relay_threads.specs.declared.serve_end.Ending.{Ending}
use Rattle.relay_threads.specs.declared.serve_end.Ending.TheVariants as served
use Rattle.relay_threads.specs.declared.serve_end.Numbered.{Numbered}
use Rattle.relay_threads.specs.Serve.{AreServed, FailsToServe, HasServed, IsBrokenOff, IsNotConnected, IsRefused, IsServed, IsServedAll, Serves, ServesOne, bytes_behind, first_of, labelled, listening, numbers, served_lines, with_accepted, without_incoming}

-- ---- what doors tell

drop_nil : (n : ℕ) → ◌≡◌ {A = List (List ℕ)} (drop n []) []
drop_nil zero = refl
drop_nil (suc n) = refl

drop_then : (xs : List (List ℕ)) (n m : ℕ) → drop m (drop n xs) ≡ drop (n + m) xs
drop_then [] n m = ap (λ (ys : List (List ℕ)). drop m ys) (drop_nil n) ∙ drop_nil m ∙ sym (drop_nil (n + m))
drop_then (x ∷ xs) zero m = let same : m ≡ zero + m = omega arith in ap (λ (k : ℕ). drop k (x ∷ xs)) same
drop_then (x ∷ xs) (suc n) m = let same : suc (n + m) ≡ suc n + m = omega arith in drop_then xs n m ∙ ap (λ (k : ℕ). drop k (x ∷ xs)) same

get_nil : (k : ℕ) → ◌≡◌ {A = Option (List ℕ)} (slice_get [] k) None
get_nil zero = refl
get_nil (suc k) = refl

get_drop : (xs : List (List ℕ)) (n k : ℕ) → slice_get (drop n xs) k ≡ slice_get xs (n + k)
get_drop [] n k = ap (λ (ys : List (List ℕ)). slice_get ys k) (drop_nil n) ∙ get_nil k ∙ sym (get_nil (n + k))
get_drop (x ∷ xs) zero k = let same : k ≡ zero + k = omega arith in ap (λ (j : ℕ). slice_get (x ∷ xs) j) same
get_drop (x ∷ xs) (suc n) k = let same : suc (n + k) ≡ suc n + k = omega arith in get_drop xs n k ∙ ap (λ (j : ℕ). slice_get (x ∷ xs) j) same

-- what is told behind some connections
abbrev after_some : ℕ → List Device → Option Told → Option Told
after_some n devices told = option_map (with_all devices) (option_map (without_incoming n) told)

told_then : (n m : ℕ) (xs ys : List Device) (told : Option Told) → after_some m ys (after_some n xs told) ≡ after_some (n + m) (xs ++ ys) told
told_then n m xs ys None = refl
told_then n m xs ys (Some t) =
    ap (λ (x : List (List ℕ) × List Device). Some (record t { incoming = x.0; returned = x.1 })) (λ i. (drop_then t.incoming n m i, append_assoc t.returned xs ys i))

none_told : (told : Option Told) → after_some 0 [] told ≡ told
none_told None = refl
none_told (Some t) = ap (λ (xs : List Device). Some (record t { returned = xs })) (append-nil t.returned)

if_told : (P : Type 0) (n : ℕ) (told : Option Told) → IfSome (option_map (without_incoming n) told) (λ _. P) → IfSome told (λ _. P)
if_told P n None given = tt
if_told P n (Some t) given = given

if_told_after : (P : Type 0) (n : ℕ) (devices : List Device) (told : Option Told) → IfSome (after_some n devices told) (λ _. P) → IfSome told (λ _. P)
if_told_after P n devices None given = tt
if_told_after P n devices (Some t) given = given

bytes_later : (n k : ℕ) (devices : List Device) (told : Option Told) (source : SourceState) → IfSome (after_some n devices told) (λ t. HasBytes source (bytes_behind k t)) → IfSome told (λ t. HasBytes source (bytes_behind (n + k) t))
bytes_later n k devices None source given = tt
bytes_later n k devices (Some t) source given = subst (λ (bytes : Option (List ℕ)). HasBytes source bytes) (get_drop t.incoming n k) given

-- ---- connections that were served

module _ (job : Job) (target : List ℕ) where
  one_later : (n k : ℕ) (devices : List Device) (told : Option Told) (r : Relayed) → IsServed job target (after_some n devices told) k r → IsServed job target told (n + k) r
  one_later n k devices told r is = record {
    fresh = record {
      inlet = record { unfailed = is.fresh.inlet.unfailed; bytes = bytes_later n k devices told r.opened.inlet is.fresh.inlet.bytes };
      outlet_unfailed = is.fresh.outlet_unfailed;
      empty = if_told_after (r.opened.outlet.written ≡ Some []) n devices told is.fresh.empty;
      named = if_told_after (r.opened.outlet.name ≡ Some target) n devices told is.fresh.named;
    };
    finishes = is.finishes;
  }

  all_later : (n k : ℕ) (devices : List Device) (told : Option Told) (rs : List Relayed) → AreServed job target (after_some n devices told) k rs → AreServed job target told (n + k) rs
  all_later n k devices told [] each = tt
  all_later n k devices told (r ∷ rs) each =
      let next : n + suc k ≡ suc (n + k) = omega arith in
      (one_later n k devices told r each.0, subst (λ (j : ℕ). AreServed job target told j rs) next (all_later n (suc k) devices told rs each.1))

  one_behind : (k : ℕ) (told : Option Told) (xs ys : List Relayed) → AreServed job target told k xs → AreServed job target told (length xs + k) ys → AreServed job target told k (xs ++ ys)
  one_behind k told [] ys each more = let same : zero + k ≡ k = omega arith in subst (λ (j : ℕ). AreServed job target told j ys) same more
  one_behind k told (x ∷ xs) ys each more =
      let next : suc (length xs) + k ≡ length xs + suc k = omega arith in
      (each.0, one_behind (suc k) told xs ys each.1 (subst (λ (j : ℕ). AreServed job target told j ys) next more))

  pub served_then : (b m a : DoorsState) (xs ys : List Relayed) → HasServed job target xs b m → HasServed job target ys m a → HasServed job target (xs ++ ys) b a
  served_then b m a xs ys first second =
      let told : m.told ≡ after_some (length xs) (returned xs) b.told = ap (λ d. d.told) first.back.returned in
      let size = length-append xs ys in
      let all : returned (xs ++ ys) ≡ returned xs ++ returned ys = flat_map-append (λ (r : Relayed). both r.ended) xs ys in
      record {
        each = one_behind 0 b.told xs ys first.each (all_later (length xs) 0 (returned xs) b.told ys (subst (λ (t : Option Told). AreServed job target t 0 ys) told second.each));
        back = record {
          counted = subst (λ n. CountsFaults b.faults n a.faults) (sym (ap faults_among all ∙ faults_among-append (returned xs) (returned ys)))
              (counts_both b.faults m.faults a.faults (faults_among (returned xs)) (faults_among (returned ys)) first.back.counted second.back.counted);
          returned = doors_are a b.refusals a.faults b.is_listening b.inlets_out b.outlets_out (after_some (length (xs ++ ys)) (returned (xs ++ ys)) b.told)
              (ap (λ d. d.refusals) second.back.returned ∙ ap (λ d. d.refusals) first.back.returned)
              refl
              (ap (λ d. d.is_listening) second.back.returned ∙ ap (λ d. d.is_listening) first.back.returned)
              (ap (λ d. d.inlets_out) second.back.returned ∙ ap (λ d. d.inlets_out) first.back.returned)
              (ap (λ d. d.outlets_out) second.back.returned ∙ ap (λ d. d.outlets_out) first.back.returned)
              (ap (λ d. d.told) second.back.returned ∙ ap (λ (t : Option Told). after_some (length ys) (returned ys) t) told
              ∙ told_then (length xs) (length ys) (returned xs) (returned ys) b.told
              ∙ ap (λ (x : ℕ × List Device). after_some x.0 x.1 b.told) (λ i. (sym size i, sym all i)));
        };
      }

  none_served : (b : DoorsState) → HasServed job target [] b b
  none_served b = record {
    each = tt;
    back = record {
      counted = record { kept = λ _. refl; risen = λ some_fault. absurd (omega (arith, some_fault)) };
      returned = doors_are b b.refusals b.faults b.is_listening b.inlets_out b.outlets_out (after_some 0 [] b.told) refl refl refl refl refl (sym (none_told b.told));
    };
  }

  pub serves_one : (b m1 m2 m3 : DoorsState) (i i' : SourceState) (o o' : SinkState) (answer : Answer) → Accepts b i m1 → OpensOutlet m1 target o m2 → Finishes job answer i i' o o' → HasComeBack (devices_of i' o' ∷ []) m2 m3
      → ServesOne job target answer b m3
  serves_one b m1 m2 m3 i i' o o' answer accepts opens finishes back =
      let faults : m2.faults ≡ b.faults = ap (λ d. d.faults) opens.opened ∙ ap (λ d. d.faults) accepts.opened in
      let told : m1.told ≡ option_map (without_incoming 1) b.told = ap (λ d. d.told) accepts.opened in
      record {
        relayed = record { opened = devices_of i o; ended = devices_of i' o'; answer = answer };
        answered = refl;
        served = record {
          each = (
            record {
              fresh = record {
                inlet = record { unfailed = accepts.unfailed; bytes = accepts.first };
                outlet_unfailed = opens.unfailed;
                empty = if_told (o.written ≡ Some []) 1 b.told (subst (λ (t : Option Told). IfSome t (λ _. o.written ≡ Some [])) told opens.empty);
                named = if_told (o.name ≡ Some target) 1 b.told (subst (λ (t : Option Told). IfSome t (λ _. o.name ≡ Some target)) told opens.named);
              };
              finishes = finishes;
            },
            tt,
          );
          back = record {
            counted = subst (λ (n : ℕ). CountsFaults n (faults_among (both (devices_of i' o'))) m3.faults) faults back.counted;
            returned = doors_are m3 b.refusals m3.faults b.is_listening b.inlets_out b.outlets_out (after_some 1 (both (devices_of i' o')) b.told)
                (ap (λ d. d.refusals) back.returned ∙ ap (λ d. d.refusals) opens.opened ∙ ap (λ d. d.refusals) accepts.opened)
                refl
                (ap (λ d. d.is_listening) back.returned ∙ ap (λ d. d.is_listening) opens.opened ∙ ap (λ d. d.is_listening) accepts.opened)
                (let x = ap (λ d. d.inlets_out) back.returned in let z = ap (λ d. d.inlets_out) opens.opened in let w = ap (λ d. d.inlets_out) accepts.opened in omega (arith, x, z, w))
                (let x = ap (λ d. d.outlets_out) back.returned in let z = ap (λ d. d.outlets_out) opens.opened in let w = ap (λ d. d.outlets_out) accepts.opened in omega (arith, x, z, w))
                (ap (λ d. d.told) back.returned
                ∙ ap (λ (t : Option Told). option_map (with_all (both (devices_of i' o'))) t) (ap (λ d. d.told) opens.opened ∙ told));
          };
        };
      }

-- ---- a connection that was refused

pub refused_connect : (b m1 m2 m3 : DoorsState) (i : SourceState) (error : DoorError) → Accepts b i m1 → FailsWith error m1 m2 → TakesBackInlet m2 i m3 → FailsToServe error 2 b m3
refused_connect b m1 m2 m3 i error accepts fails back = IsNotConnected refl i (record { unfailed = accepts.unfailed; bytes = accepts.first }) (by error fails)
  where
    told_is : m2.told ≡ m1.told → m3.told ≡ after_some 1 (an_inlet i ∷ []) b.told
    told_is same =
        ap (λ d. d.told) back.returned ∙ one_back (an_inlet i) m2.told ∙ ap (λ (t : Option Told). option_map (with_all (an_inlet i ∷ [])) t) (same ∙ ap (λ d. d.told) accepts.opened)

    faults_are : m2.faults ≡ m1.faults → m3.faults ≡ b.faults
    faults_are same = back.counted.kept accepts.unfailed ∙ same ∙ ap (λ d. d.faults) accepts.opened

    by : (error : DoorError) → FailsWith error m1 m2 → FailsWith error (with_unused (an_inlet i ∷ []) (with_accepted 1 b)) m3
    by Failed fails = record {
      risen = subst (λ (x : ℕ × ℕ). HasRisen x.0 x.1) (λ k. (ap (λ d. d.refusals) accepts.opened k, sym (ap (λ d. d.refusals) back.returned) k)) fails.risen;
      kept = doors_are m3 m3.refusals b.faults b.is_listening b.inlets_out b.outlets_out (after_some 1 (an_inlet i ∷ []) b.told) refl
          (faults_are (ap (λ d. d.faults) fails.kept))
          (ap (λ d. d.is_listening) back.returned ∙ ap (λ d. d.is_listening) fails.kept ∙ ap (λ d. d.is_listening) accepts.opened)
          (let x = ap (λ d. d.inlets_out) back.returned in let y = ap (λ d. d.inlets_out) fails.kept in let z = ap (λ d. d.inlets_out) accepts.opened in omega (arith, x, y, z))
          (ap (λ d. d.outlets_out) back.returned ∙ ap (λ d. d.outlets_out) fails.kept ∙ ap (λ d. d.outlets_out) accepts.opened)
          (told_is (ap (λ d. d.told) fails.kept));
    }
    by OutOfMemory fails =
        doors_are m3 b.refusals b.faults b.is_listening b.inlets_out b.outlets_out (after_some 1 (an_inlet i ∷ []) b.told)
        (ap (λ d. d.refusals) back.returned ∙ ap (λ d. d.refusals) fails ∙ ap (λ d. d.refusals) accepts.opened)
        (faults_are (ap (λ d. d.faults) fails))
        (ap (λ d. d.is_listening) back.returned ∙ ap (λ d. d.is_listening) fails ∙ ap (λ d. d.is_listening) accepts.opened)
        (let x = ap (λ d. d.inlets_out) back.returned in let y = ap (λ d. d.inlets_out) fails in let z = ap (λ d. d.inlets_out) accepts.opened in omega (arith, x, y, z))
        (ap (λ d. d.outlets_out) back.returned ∙ ap (λ d. d.outlets_out) fails ∙ ap (λ d. d.outlets_out) accepts.opened)
        (told_is (ap (λ d. d.told) fails))

-- ---- lines, and the first that failed

lines_from : (n : ℕ) (xs : List Relayed) (r : Relayed) → answer_lines (numbers n (xs ++ r ∷ [])) (answers (xs ++ r ∷ [])) ≡ answer_lines (numbers n xs) (answers xs) ++ answer_line (decimal (length xs + n)) r.answer
lines_from n [] r = let same : n ≡ zero + n = omega arith in append-nil (answer_line (decimal n) r.answer) ∙ ap (λ (k : ℕ). answer_line (decimal k) r.answer) same
lines_from n (x ∷ xs) r =
    let next : length xs + suc n ≡ suc (length xs) + n = omega arith in
    ap (λ (lines : List ℕ). answer_line (decimal n) x.answer ++ lines) (lines_from (suc n) xs r)
    ∙ sym (append_assoc (answer_line (decimal n) x.answer) (answer_lines (numbers (suc n) xs) (answers xs)) (answer_line (decimal (length xs + suc n)) r.answer))
    ∙ ap (λ (k : ℕ). (answer_line (decimal n) x.answer ++ answer_lines (numbers (suc n) xs) (answers xs)) ++ answer_line (decimal k) r.answer) next

-- the first that failed, or this one where it did
abbrev or_next : Option (List ℕ × Answer) → List ℕ → Answer → Option (List ℕ × Answer)
or_next (Some first) label answer = Some first
or_next None label answer = if is_clean (status_of_answer answer) then None else Some (label, answer)

if_clean : (clean : Bool) (all some : Option (List ℕ × Answer)) (here : List ℕ × Answer) (label : List ℕ) (answer : Answer) → all ≡ or_next some label answer
    → (if clean then all else Some here) ≡ or_next (if clean then some else Some here) label answer
if_clean true all some here label answer same = same
if_clean false all some here label answer same = refl

first_from : (n : ℕ) (xs : List Relayed) (r : Relayed) → first_failed (numbers n (xs ++ r ∷ [])) (answers (xs ++ r ∷ [])) ≡ or_next (first_failed (numbers n xs) (answers xs)) (decimal (length xs + n)) r.answer
first_from n [] r = let same : n ≡ zero + n = omega arith in ap (λ (k : ℕ). or_next None (decimal k) r.answer) same
first_from n (x ∷ xs) r =
    let next : length xs + suc n ≡ suc (length xs) + n = omega arith in
    if_clean (is_clean (status_of_answer x.answer)) _ _ (decimal n, x.answer) _ r.answer
    (first_from (suc n) xs r ∙ ap (λ (k : ℕ). or_next (first_failed (numbers (suc n) xs) (answers xs)) (decimal k) r.answer) next)

labelled_if : (clean : Bool) (next : Numbered) → option_map labelled (if clean then None else Some next) ≡ (if clean then None else Some (labelled next))
labelled_if true next = refl
labelled_if false next = refl

labelled_first : (failed : Option Numbered) (next : Numbered) → option_map labelled (first_of failed next) ≡ or_next (option_map labelled failed) (decimal next.number) next.answer
labelled_first (Some first) next = refl
labelled_first None next = labelled_if (is_clean (status_of_answer next.answer)) next

-- ---- what is out with a pass

pub adds_none : (v : PassBooks) → Adds v [] v
adds_none v = record { out = λ id. omega arith; parts = refl }

pub adds_none_twice : (u v w : PassBooks) → Adds u [] v → Adds v [] w → Adds u [] w
adds_none_twice u v w first second = record {
  out = λ id. let a = first.out id in let b = second.out id in omega (arith, a, b);
  parts = second.parts ∙ first.parts;
}

-- ---- the loop

pub record IsServing (job : Job) (target : List ℕ) (first now : DoorsState) (sink_first sink : SinkState) (count : ℕ) (failed : Option Numbered) (written : ℕ) : Type 0 where
  pub relayed : List Relayed
  pub long : length relayed ≡ count
  pub has : HasServed job target relayed (listening first) now
  pub lines : Takes sink_first (served_lines relayed) sink
  pub failed_is : option_map labelled failed ≡ first_failed (numbers 1 relayed) (answers relayed)
  pub written_is : written ≡ length (served_lines relayed)
  pub few : written ≤ 281 * count

Appends-kept : (a b c : Option (List ℕ)) (bs : List ℕ) → Appends a b bs → Keeps b c → Appends a c bs
Appends-kept None b c bs gained kept = tt
Appends-kept (Some x) None c bs gained kept = absurd gained
Appends-kept (Some x) (Some y) None bs gained kept = absurd kept
Appends-kept (Some x) (Some y) (Some z) bs gained kept = kept ∙ gained

module _ (job : Job) (target : List ℕ) where
  pub begins : (first now : DoorsState) (k : SinkState) → Listens first now → IsServing job target first now k k 0 None 0
  begins first now k listens = record {
    relayed = [];
    long = refl;
    has = subst (λ d. HasServed job target [] (listening first) d) (sym listens) (none_served job target (listening first));
    lines = record { taken = Appends-nil k.written; unfailed = refl; same = refl };
    failed_is = refl;
    written_is = refl;
    few = omega arith;
  }

  pub still_listens : (first now : DoorsState) (k0 k : SinkState) (count : ℕ) (failed : Option Numbered) (written : ℕ) → IsServing job target first now k0 k count failed written → now.is_listening ≡ true
  still_listens first now k0 k count failed written so = ap (λ d. d.is_listening) so.has.back.returned

  module _ (first now after : DoorsState) (k0 k : SinkState) (count : ℕ) (failed : Option Numbered) (written : ℕ) (so : IsServing job target first now k0 k count failed written) where
    -- the lines with that of one more
    one_more : (r : Relayed) (next : Numbered) → next.number ≡ count + 1 → r.answer ≡ next.answer → served_lines (so.relayed ++ r ∷ []) ≡ served_lines so.relayed ++ answer_line (decimal next.number) next.answer
    one_more r next numbered answered =
        let number : length so.relayed + 1 ≡ next.number = omega (arith, so.long, numbered) in
        lines_from 1 so.relayed r ∙ ap (λ (x : ℕ × Answer). served_lines so.relayed ++ answer_line (decimal x.0) x.1) (λ i. (number i, answered i))

    pub goes_on : (next : Numbered) (k' : SinkState) (len : ℕ) → next.number ≡ count + 1 → ServesOne job target next.answer now after → Takes k (answer_line (decimal next.number) next.answer) k'
        → len ≡ length (answer_line (decimal next.number) next.answer) → len ≤ 281 → IsServing job target first after k0 k' (count + 1) (first_of failed next) (written + len)
    goes_on next k' len numbered one takes length_is short =
        let lines = one_more one.relayed next numbered one.answered in
        let size = length-append so.relayed (one.relayed ∷ []) in
        let number : length so.relayed + 1 ≡ next.number = omega (arith, so.long, numbered) in
        record {
          relayed = so.relayed ++ one.relayed ∷ [];
          long = omega (arith, size, so.long);
          has = served_then job target (listening first) now after so.relayed (one.relayed ∷ []) so.has one.served;
          lines = subst (λ (bytes : List ℕ). Takes k0 bytes k') (sym lines) (Takes-trans k0 k k' (served_lines so.relayed) _ so.lines takes);
          failed_is = labelled_first failed next ∙ ap (λ (x : Option (List ℕ × Answer)). or_next x (decimal next.number) next.answer) so.failed_is
              ∙ ap (λ (x : ℕ × Answer). or_next (first_failed (numbers 1 so.relayed) (answers so.relayed)) (decimal x.0) x.1) (λ i. (sym number i, sym one.answered i))
              ∙ sym (first_from 1 so.relayed one.relayed);
          written_is = let more = ap length lines in let parts = length-append (served_lines so.relayed) (answer_line (decimal next.number) next.answer) in omega (arith, more, parts, so.written_is, length_is);
          few = omega (arith, so.few, short);
        }

    pub breaks_off : (all : ℕ) (next : Numbered) (k' : SinkState) (more : ℕ) (ending : Ending) → count < all → next.number ≡ count + 1 → ServesOne job target next.answer now after → TakesFront k (answer_line (decimal next.number) next.answer) more k'
        → ending ≡ served.BrokenOff (written + more) → Serves job target all ending first after k0 k'
    breaks_off all next k' more ending few numbered one front is =
        let lines = one_more one.relayed next numbered one.answered in
        let size = length-append so.relayed (one.relayed ∷ []) in
        IsBrokenOff (so.relayed ++ one.relayed ∷ []) (omega (arith, size, so.long, few)) (served_then job target (listening first) now after so.relayed (one.relayed ∷ []) so.has one.served) (written + more)
        (subst (λ (x : List ℕ × ℕ). TakesFront k0 x.0 x.1 k') (λ i. (sym lines i, ap (λ n. n + more) (sym so.written_is) i)) (front_behind k0 k k' (served_lines so.relayed) _ more so.lines front))
        is

    pub is_refused : (all : ℕ) (error : DoorError) (word : ℕ) (ending : Ending) → count < all → FailsToServe error word now after → ending ≡ served.Refused error word → Serves job target all ending first after k0 k
    is_refused all error word ending few fails is = IsRefused so.relayed (omega (arith, so.long, few)) now so.has error word fails so.lines is

  pub is_all : (first now : DoorsState) (k0 k k' : SinkState) (count : ℕ) (failed : Option Numbered) (written : ℕ) (ending : Ending) → IsServing job target first now k0 k count failed written → Takes k [] k' → ending ≡ served.AllServed failed
      → Serves job target count ending first now k0 k'
  is_all first now k0 k k' count failed written ending so flushed is =
      IsServedAll so.relayed so.long so.has
      (subst (λ (bytes : List ℕ). Takes k0 bytes k') (append-nil (served_lines so.relayed)) (Takes-trans k0 k k' (served_lines so.relayed) [] so.lines flushed))
      failed so.failed_is is

  pub is_unflushed : (first now : DoorsState) (k0 k k' : SinkState) (count : ℕ) (failed : Option Numbered) (written : ℕ) (ending : Ending) → IsServing job target first now k0 k count failed written → SinkFails k k' → ending ≡ served.BrokenOff written
      → Serves job target count ending first now k0 k'
  is_unflushed first now k0 k k' count failed written ending so fails is =
      IsBrokenOff so.relayed (omega (arith, so.long)) so.has written
      (record {
        front = served_lines so.relayed;
        is_front = ([], append-nil (served_lines so.relayed));
        counted = so.written_is;
        taken = Appends-kept _ _ _ _ so.lines.taken fails.kept;
        risen = subst (λ (n : ℕ). HasRisen n k'.faults) so.lines.unfailed fails.risen;
        same = fails.same ∙ so.lines.same;
      }) is
