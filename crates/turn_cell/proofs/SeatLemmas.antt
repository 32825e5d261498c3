-- The seats of a new cell, and what a seat is seen to know after a step.
use Rattle.std.proofs.Common.{◌≡◌, ℕ, ◌+◌, ◌*◌, false, List, [], ◌∷◌, ◌++◌, length, append-nil, Option, Some, None, IfSome, unwrap_or, refl, sym, ap, ◌∙◌, subst, add-one, arith}
use Rattle.std.specs.Option.{option_to_list}
use Rattle.std.proofs.lemmas.List.{length_push, same_from_push}
use Rattle.atomic_table.specs.Seated.{TableId}
use Rattle.atomic_table.specs.Table.{Me, Final, Seen}
use mathlib.Core.Option as plain
use lib.ListN.{get_elem?}
use Rattle.turn_cell.specs.declared.view.SeatView.{SeatView}
use Rattle.turn_cell.specs.Seat.{CellState, SeatState, HeldState, IsOf, Agrees, Takes, Closes, HasTakenInAll, new_seat, new_seats, AreNewSeats, after_take}
use Rattle.turn_cell.specs.Rule.{shown, Wins, TurnRule}
use Rattle.turn_cell.proofs.MeetingLemmas.{closes}

module _ {E N : Type 0} (cell : CellState N) where
  next_seats : (n m : ℕ) → m ≡ n + 1 → new_seats {E = E} cell m ≡ new_seats cell n ++ new_seat cell n ∷ []
  next_seats n m is = ap (λ (k : ℕ). new_seats {E = E} cell k) (is ∙ add-one n)

  -- one more seat, with the next number
  pub one_more : (all more : List (SeatState E N)) (seat : SeatState E N) → AreNewSeats cell all → more ≡ all ++ seat ∷ [] → seat ≡ new_seat cell (length all) → AreNewSeats cell more
  one_more all more seat new is last =
      let long : length more ≡ length all + 1 = ap length is ∙ length_push all seat in
      is ∙ (ap (λ (l : List (SeatState E N)). l ++ seat ∷ []) new ∙ (ap (λ (s : SeatState E N). new_seats cell (length all) ++ s ∷ []) last ∙ sym (next_seats (length all) (length more) long)))

  -- the seats that are left, and the one that was last
  one_less : (all less : List (SeatState E N)) (seat : SeatState E N) → AreNewSeats cell all → all ≡ less ++ seat ∷ [] → AreNewSeats cell less × (seat ≡ new_seat cell (length less))
  one_less all less seat new is =
      let long : length all ≡ length less + 1 = ap length is ∙ length_push less seat in
      same_from_push less (new_seats cell (length less)) seat (new_seat cell (length less)) (sym is ∙ (new ∙ next_seats (length less) (length all) long))

  pub popped : (all less : List (SeatState E N)) (r : Option (SeatState E N)) → AreNewSeats cell all → all ≡ less ++ option_to_list r → AreNewSeats cell less × IfSome r (λ seat. seat ≡ new_seat cell (length less))
  popped all less None new is = (subst (AreNewSeats cell) (is ∙ append-nil less) new, tt)
  popped all less (Some seat) new is = one_less all less seat new is

-- what lay in the slot is what was put there
pub state_there : {S : Type 0} (found : Option S) (x y : S) (xs ys : List (ℕ × Option S)) → (0, found) ∷ xs ≡ (0, Some x) ∷ ys → found ≡ Some y → y ≡ x
state_there {S} found x y xs ys slots is = ap (λ (o : Option S). unwrap_or o x) (sym is ∙ ap front slots)
  where
    front : List (ℕ × Option S) → Option S
    front [] = None
    front (e ∷ es) = e.1

module _ {S E N : Type 0} (stands : S → List (ℕ × E) → Type 0) (name_of : S → N) where
  -- what a take tells of the seat that contracts see
  pub taken_by : (table : TableId) (m m' : Me (Option S) (SeatView E N)) (word : ℕ) (won : Wins stands name_of m word m') (old new : SeatState E N) (held : HeldState S)
      → shown table m.0 ≡ old → new ≡ shown table m'.0 → held.state ≡ won.state → 2 * held.entries ≡ word → Takes stands old held new
  taken_by table m m' word won old new held is new_is state told =
      let log = won.log in
      let entries : held.entries ≡ length log = omega (arith, told, won.length_told) in
      let after : new ≡ after_take (2 * length log) log old =
      new_is ∙ (ap (λ (x : Me (Option S) (SeatView E N)). shown table x.0) won.after ∙ (ap (λ (s : SeatState E N). after_take word log s) is ∙ ap (λ (k : ℕ). after_take k log old) won.length_told)) in
      let knew : Agrees (shown table m.0) log = record { begins = won.begins; own = won.own; past = won.past; joined = won.joined } in
      subst (Takes stands old held) (sym after) (record {
        after = refl;
        agrees = subst (λ (s : SeatState E N). Agrees s log) is knew;
        entries = entries;
        bounded = omega (arith, entries, won.bounded);
        stand = subst (λ (x : S). stands x log) (sym state) won.stand;
      })

  -- what the last state of a table tells of the cell and the seat that contracts see
  pub closed_by : (table place : TableId) (name : N) (seats : ℕ) (words : List ℕ) (slots : List (Option S)) (id : ℕ) (v : SeatView E N) (seat : SeatState E N) (cell : CellState N)
      → seat ≡ shown place v → cell ≡ record { table = table; name = name; seats = seats } → IsOf cell seat → seat.holds ≡ false → HasTakenInAll cell seat → Final (Seen (TurnRule stands name_of name seats) id v) words slots
      → (x : S) × (get_elem? slots 0 ≡ plain.some (Some x)) × Closes stands cell seat x × (name_of x ≡ cell.name)
  closed_by table place name seats words slots id v seat cell is cell_is of off all final =
      let named : v.name ≡ Some name = ap (λ (s : SeatState E N). s.name) (sym is) ∙ (of.named ∙ ap (λ (c : CellState N). Some c.name) cell_is) in
      let free : v.holds ≡ false = ap (λ (s : SeatState E N). s.holds) (sym is) ∙ off in
      let both : (cell, seat) ≡ (record { table = table; name = name; seats = seats }, shown place v) = λ i. (cell_is i, is i) in
      subst (λ (p : CellState N × SeatState E N). (x : S) × (get_elem? slots 0 ≡ plain.some (Some x)) × Closes stands p.0 p.1 x × (name_of x ≡ p.0.name)) (sym both)
      (closes stands name_of name seats table place words slots id v named free (subst (λ (p : CellState N × SeatState E N). HasTakenInAll p.0 p.1) both all) final)
