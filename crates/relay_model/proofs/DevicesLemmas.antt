-- What doors are once devices were given back.
use Rattle.std.proofs.Common.{◌≡◌, ◌<◌, ◌+◌, ◌-◌, ℕ, Bool, List, [], ◌∷◌, ◌++◌, length, Option, Some, None, refl, sym, ap, ◌∙◌, subst, arith, append-nil, append_assoc, inl, inr, zero, suc}
use Rattle.std.specs.Prelude.{option_map}
use Rattle.std.specs.List.{flat_map}
use Rattle.std.proofs.lemmas.List.{length-append}
use Rattle.std.proofs.lemmas.Grind.{flat_map-append}
use Rattle.edge_core.specs.Device.{HasRisen, SinkState, SourceState}
use Rattle.edge_core.specs.Doors.{CountsFaults, Device, DoorsState, TakesBackInlet, TakesBackOutlet, Told, an_inlet, an_outlet, with_returned}
use Rattle.relay_model.specs.Devices.{Devices, HasComeBack, both, devices_of, faults_among, with_all}

-- ---- doors by their parts

pub doors_are : (a : DoorsState) (r f : ℕ) (l : Bool) (i o : ℕ) (t : Option Told) → a.refusals ≡ r → a.faults ≡ f → a.is_listening ≡ l → a.inlets_out ≡ i → a.outlets_out ≡ o → a.told ≡ t
    → a ≡ record { refusals = r; faults = f; is_listening = l; inlets_out = i; outlets_out = o; told = t }
doors_are a r f l i o t er ef el ei eo et =
    subst (λ (x : ℕ). a ≡ record { refusals = x; faults = f; is_listening = l; inlets_out = i; outlets_out = o; told = t }) er
    (subst (λ (x : ℕ). a ≡ record { refusals = a.refusals; faults = x; is_listening = l; inlets_out = i; outlets_out = o; told = t }) ef
    (subst (λ (x : Bool). a ≡ record { refusals = a.refusals; faults = a.faults; is_listening = x; inlets_out = i; outlets_out = o; told = t }) el
    (subst (λ (x : ℕ). a ≡ record { refusals = a.refusals; faults = a.faults; is_listening = a.is_listening; inlets_out = x; outlets_out = o; told = t }) ei
    (subst (λ (x : ℕ). a ≡ record { refusals = a.refusals; faults = a.faults; is_listening = a.is_listening; inlets_out = a.inlets_out; outlets_out = x; told = t }) eo
    (subst (λ (x : Option Told). a ≡ record { refusals = a.refusals; faults = a.faults; is_listening = a.is_listening; inlets_out = a.inlets_out; outlets_out = a.outlets_out; told = x }) et refl)))))

pub nothing_back : (told : Option Told) → option_map (with_all []) told ≡ told
nothing_back None = refl
nothing_back (Some t) = ap (λ (xs : List Device). Some (record t { returned = xs })) (append-nil t.returned)

pub back_in_turn : (xs ys : List Device) (told : Option Told) → option_map (with_all ys) (option_map (with_all xs) told) ≡ option_map (with_all (xs ++ ys)) told
back_in_turn xs ys None = refl
back_in_turn xs ys (Some t) = ap (λ (zs : List Device). Some (record t { returned = zs })) (append_assoc t.returned xs ys)

pub one_back : (device : Device) (told : Option Told) → option_map (with_returned device) told ≡ option_map (with_all (device ∷ [])) told
one_back device None = refl
one_back device (Some t) = refl

-- ---- counts of faulty devices

rises : (a b c : ℕ) → HasRisen a b → HasRisen b c → HasRisen a c
rises a b c (inl ab) (inl bc) = inl (omega (arith, ab, bc))
rises a b c (inl ab) (inr bc) = inl (omega (arith, ab, bc.0, bc.1))
rises a b c (inr ab) (inl bc) = inl (omega (arith, ab.0, ab.1, bc))
rises a b c (inr ab) (inr bc) = inr (ab.0, bc.1)

rises_by_either : (a b c m n : ℕ) → CountsFaults a m b → CountsFaults b n c → 0 < m + n → HasRisen a c
rises_by_either a b c zero n ab bc some = subst (λ x. HasRisen x c) (ab.kept refl) (bc.risen (omega (arith, some)))
rises_by_either a b c (suc m) zero ab bc some = subst (λ x. HasRisen a x) (sym (bc.kept refl)) (ab.risen (omega arith))
rises_by_either a b c (suc m) (suc n) ab bc some = rises a b c (ab.risen (omega arith)) (bc.risen (omega arith))

pub counts_both : (a b c m n : ℕ) → CountsFaults a m b → CountsFaults b n c → CountsFaults a (m + n) c
counts_both a b c m n ab bc = record {
  kept = λ none. bc.kept (omega (arith, none)) ∙ ab.kept (omega (arith, none));
  risen = rises_by_either a b c m n ab bc;
}

pub faults_among-append : (xs ys : List Device) → faults_among (xs ++ ys) ≡ faults_among xs + faults_among ys
faults_among-append [] ys = omega arith
faults_among-append (x ∷ xs) ys = let rest = faults_among-append xs ys in omega (arith, rest)

-- ---- giving back

pub came_back : (before between after : DoorsState) (inlet : SourceState) (outlet : SinkState) → TakesBackInlet before inlet between → TakesBackOutlet between outlet after → HasComeBack (devices_of inlet outlet ∷ []) before after
came_back before between after inlet outlet first second = record {
  counted = subst (λ n. CountsFaults before.faults n after.faults) (omega arith) (counts_both before.faults between.faults after.faults inlet.faults outlet.faults first.counted second.counted);
  returned = doors_are after before.refusals after.faults before.is_listening (before.inlets_out - 1) (before.outlets_out - 1) (option_map (with_all (flat_map both (devices_of inlet outlet ∷ []))) before.told)
      (ap (λ d. d.refusals) second.returned ∙ ap (λ d. d.refusals) first.returned)
      refl
      (ap (λ d. d.is_listening) second.returned ∙ ap (λ d. d.is_listening) first.returned)
      (ap (λ d. d.inlets_out) second.returned ∙ ap (λ d. d.inlets_out) first.returned)
      (ap (λ d. d.outlets_out) second.returned ∙ ap (λ (d : DoorsState). d.outlets_out - 1) first.returned)
      (ap (λ d. d.told) second.returned ∙ one_back (an_outlet outlet) between.told
      ∙ ap (λ (t : Option Told). option_map (with_all (an_outlet outlet ∷ [])) t) (ap (λ d. d.told) first.returned ∙ one_back (an_inlet inlet) before.told)
      ∙ back_in_turn (an_inlet inlet ∷ []) (an_outlet outlet ∷ []) before.told);
}

pub came_back_then : (before between after : DoorsState) (xs ys : List Devices) → HasComeBack xs before between → HasComeBack ys between after → HasComeBack (xs ++ ys) before after
came_back_then before between after xs ys first second =
    let size = length-append xs ys in
    let all = flat_map-append both xs ys in
    record {
      counted = subst (λ n. CountsFaults before.faults n after.faults) (sym (ap faults_among all ∙ faults_among-append (flat_map both xs) (flat_map both ys)))
          (counts_both before.faults between.faults after.faults (faults_among (flat_map both xs)) (faults_among (flat_map both ys)) first.counted second.counted);
      returned = doors_are after before.refusals after.faults before.is_listening (before.inlets_out - length (xs ++ ys)) (before.outlets_out - length (xs ++ ys)) (option_map (with_all (flat_map both (xs ++ ys))) before.told)
          (ap (λ d. d.refusals) second.returned ∙ ap (λ d. d.refusals) first.returned)
          refl
          (ap (λ d. d.is_listening) second.returned ∙ ap (λ d. d.is_listening) first.returned)
          (let s = ap (λ d. d.inlets_out) second.returned in let f = ap (λ d. d.inlets_out) first.returned in omega (arith, s, f, size))
          (let s = ap (λ d. d.outlets_out) second.returned in let f = ap (λ d. d.outlets_out) first.returned in omega (arith, s, f, size))
          (ap (λ d. d.told) second.returned
          ∙ ap (λ (t : Option Told). option_map (with_all (flat_map both ys)) t) (ap (λ d. d.told) first.returned)
          ∙ back_in_turn (flat_map both xs) (flat_map both ys) before.told
          ∙ ap (λ (zs : List Device). option_map (with_all zs) before.told) (sym all));
    }
