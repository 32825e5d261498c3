-- The numbers of seats that meet, for those who close a cell.
use Rattle.std.proofs.Common.{◌≡◌, ℕ, zero, suc, ◌<◌, List, [], ◌∷◌, ◌++◌, refl, sym, ap, ◌∙◌, subst, arith}
use Rattle.std.specs.List.{All, Contains}
use mathlib.Core.List.{IsPrefix}
use Rattle.std.proofs.lemmas.List.{map-append}
use Rattle.std.proofs.lemmas.List.Elements.{All-nil, All-cons, All-head, All-tail, Contains-append_left, Contains-append_right}
use Rattle.turn_cell.specs.declared.view.Joined.{Joined}
use Rattle.turn_cell.specs.History.{entries_of}
use Rattle.turn_cell.specs.Seat.{CellState, SeatState, Agrees, HasTakenInAll, after_join, as_joined, numbers_of}

module _ {X : Type 0} where
  first_of : (P : X → Type 0) (xs ys : List X) → All P (xs ++ ys) → All P xs
  first_of P [] ys all = All-nil P
  first_of P (x ∷ xs) ys all = All-cons P x xs (All-head P x (xs ++ ys) all) (first_of P xs ys (All-tail P x (xs ++ ys) all))

  second_of : (P : X → Type 0) (xs ys : List X) → All P (xs ++ ys) → All P ys
  second_of P [] ys all = all
  second_of P (x ∷ xs) ys all = second_of P xs ys (All-tail P x (xs ++ ys) all)

module _ {E N : Type 0} where
  -- the numbers of two seats that meet
  pub numbers_of-after_join : (into from : SeatState E N) → numbers_of (after_join into from) ≡ numbers_of into ++ numbers_of from
  numbers_of-after_join into from = ap (λ (l : List ℕ). into.number ∷ l) (map-append (λ (j : Joined E). j.number) into.joined (as_joined from ∷ from.joined))

  -- a seat has its own number
  pub Contains-number : (seat : SeatState E N) → Contains (numbers_of seat) seat.number
  Contains-number seat = (0, omega arith, refl)

  -- once the other of two seats was taken in, no seat is left
  pub two_have_met : (cell : CellState N) (a b both : SeatState E N) → cell.seats ≡ 2 → a.number ≡ 0 → b.number ≡ 1 → both ≡ after_join a b → HasTakenInAll cell both
  two_have_met cell a b both seats zeroth first met = λ k l.
      let numbers : numbers_of both ≡ numbers_of a ++ numbers_of b = ap numbers_of met ∙ numbers_of-after_join a b in
      subst (λ (ns : List ℕ). Contains ns k) (sym numbers) (each k (subst (λ (n : ℕ). k < n) seats l))
    where
      each : (k : ℕ) → k < 2 → Contains (numbers_of a ++ numbers_of b) k
      each zero l = Contains-append_left (numbers_of a) (numbers_of b) 0 (subst (Contains (numbers_of a)) zeroth (Contains-number a))
      each (suc zero) l = Contains-append_right (numbers_of a) (numbers_of b) 1 (subst (Contains (numbers_of b)) first (Contains-number b))
      each (suc (suc k)) l = absurd (omega arith)

  -- once the two others of three seats were taken in, no seat is left
  pub three_have_met : (cell : CellState N) (a b c all : SeatState E N) → cell.seats ≡ 3 → a.number ≡ 0 → b.number ≡ 1 → c.number ≡ 2 → all ≡ after_join (after_join a b) c → HasTakenInAll cell all
  three_have_met cell a b c all seats zeroth first second met = λ k l.
      let numbers : numbers_of all ≡ (numbers_of a ++ numbers_of b) ++ numbers_of c =
      ap numbers_of met ∙ (numbers_of-after_join (after_join a b) c ∙ ap (λ (ns : List ℕ). ns ++ numbers_of c) (numbers_of-after_join a b)) in
      subst (λ (ns : List ℕ). Contains ns k) (sym numbers) (each k (subst (λ (n : ℕ). k < n) seats l))
    where
      each : (k : ℕ) → k < 3 → Contains ((numbers_of a ++ numbers_of b) ++ numbers_of c) k
      each zero l = Contains-append_left (numbers_of a ++ numbers_of b) (numbers_of c) 0 (Contains-append_left (numbers_of a) (numbers_of b) 0 (subst (Contains (numbers_of a)) zeroth (Contains-number a)))
      each (suc zero) l = Contains-append_left (numbers_of a ++ numbers_of b) (numbers_of c) 1 (Contains-append_right (numbers_of a) (numbers_of b) 1 (subst (Contains (numbers_of b)) first (Contains-number b)))
      each (suc (suc zero)) l = Contains-append_right (numbers_of a ++ numbers_of b) (numbers_of c) 2 (subst (Contains (numbers_of c)) second (Contains-number c))
      each (suc (suc (suc k))) l = absurd (omega arith)

  -- what agrees with a seat that has taken in another agrees with both
  pub both_agree : (a b both : SeatState E N) (history : List (ℕ × E)) → both ≡ after_join a b → Agrees both history → Agrees a history × Agrees b history
  both_agree a b both history met knows =
      let Begins : List (ℕ × E) → Type 0 = λ seen. IsPrefix seen history in
      let Own : Joined E → Type 0 = λ j. entries_of j.number history ≡ j.own in
      let k : Agrees (after_join a b) history = subst (λ (s : SeatState E N). Agrees s history) met knows in
      let past = All-tail Begins b.seen (a.past ++ b.past) (All-tail Begins a.seen (b.seen ∷ a.past ++ b.past) k.past) in (
        record { begins = All-head Begins a.seen (b.seen ∷ a.past ++ b.past) k.past; own = k.own; past = first_of Begins a.past b.past past; joined = first_of Own a.joined (as_joined b ∷ b.joined) k.joined },
        record {
          begins = All-head Begins b.seen (a.past ++ b.past) (All-tail Begins a.seen (b.seen ∷ a.past ++ b.past) k.past);
          own = All-head Own (as_joined b) b.joined (second_of Own a.joined (as_joined b ∷ b.joined) k.joined);
          past = second_of Begins a.past b.past past;
          joined = All-tail Own (as_joined b) b.joined (second_of Own a.joined (as_joined b ∷ b.joined) k.joined);
        },
      )

  -- what agrees with a seat that has taken in two others agrees with all three
  pub three_agree : (a b c all : SeatState E N) (history : List (ℕ × E)) → all ≡ after_join (after_join a b) c → Agrees all history → Agrees a history × Agrees b history × Agrees c history
  three_agree a b c all history met knows =
      let last = both_agree (after_join a b) c all history met knows in
      let two = both_agree a b (after_join a b) history refl last.0 in
      (two.0, two.1, last.1)
