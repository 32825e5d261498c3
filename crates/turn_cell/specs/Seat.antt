-- What contracts see of a cell, of its seats and of the state that a seat holds.
use Rattle.std.specs.Prelude.{◌≡◌, ℕ, zero, suc, ◌+◌, ◌*◌, ◌<◌, ◌≤◌, ◌^◌, Bool, true, false, List, [], ◌∷◌, ◌++◌, map, length, Option, Some}
use Rattle.std.specs.List.{All, Contains}
use mathlib.Core.List.{IsPrefix}
use Rattle.atomic_table.specs.Seated.{TableId}
use Rattle.turn_cell.specs.declared.view.Joined.{Joined}
use Rattle.turn_cell.specs.History.{entries_of, made_by, longer}

-- A cell: which one it is, the name of all its states, and the number of its seats.
pub record CellState (N : Type 0) : Type 0 where
  pub table : TableId
  pub name : N
  pub seats : ℕ

-- A seat: its cell, by its table and by the name of all its states, its number, the history as far as it was seen, its own entries, whether it holds the turn, the number of its exchanges, and the word that the last one found.
-- Of the seats that it has taken in it keeps the numbers and the entries, and what those that met in it had seen before they met.
pub record SeatState (E N : Type 0) : Type 0 where
  pub table : TableId
  pub name : Option N
  pub number : ℕ
  pub seen : List (ℕ × E)
  pub own : List E
  pub holds : Bool
  pub exchanges : ℕ
  pub last : ℕ
  pub joined : List (Joined E)
  pub past : List (List (ℕ × E))

-- What a seat holds while it has the turn: the state, and how many entries the history had when the turn was taken.
pub record HeldState (S : Type 0) : Type 0 where
  pub state : S
  pub entries : ℕ

module _ {E N : Type 0} where
  -- The seat is one of this cell's.
  pub record IsOf (cell : CellState N) (seat : SeatState E N) : Type 0 where
    pub table : seat.table ≡ cell.table
    pub named : seat.name ≡ Some cell.name

  -- The seat is one of this cell's, and doesn't hold the turn.
  abbrev pub IsIdle : CellState N → SeatState E N → Type 0
  IsIdle cell seat = IsOf cell seat × (seat.holds ≡ false)

  -- a seat that has seen nothing and made nothing
  abbrev pub new_seat : CellState N → ℕ → SeatState E N
  new_seat cell number = record { table = cell.table; name = Some cell.name; number = number; seen = []; own = []; holds = false; exchanges = 0; last = 0; joined = []; past = [] }

  -- so many new seats, with the numbers from 0 on
  abbrev pub new_seats : CellState N → ℕ → List (SeatState E N)
  new_seats cell zero = []
  new_seats cell (suc n) = new_seats cell n ++ new_seat cell n ∷ []

  -- These are new seats of the cell, in the order of their numbers, which begin at 0.
  abbrev pub AreNewSeats : CellState N → List (SeatState E N) → Type 0
  AreNewSeats cell seats = seats ≡ new_seats cell (length seats)

  -- one more exchange, which found this word
  abbrev pub after_find : ℕ → SeatState E N → SeatState E N
  after_find word seat = record seat { exchanges = seat.exchanges + 1; last = word }

  -- the same, where the word told that the turn was free: the seat holds it, and has seen this history
  abbrev pub after_take : ℕ → List (ℕ × E) → SeatState E N → SeatState E N
  after_take word history seat = record (after_find word seat) { seen = history; holds = true }

  -- the turn was given up, with these entries of the seat
  abbrev pub after_put : List E → SeatState E N → SeatState E N
  after_put entries seat = record seat { seen = seat.seen ++ made_by seat.number entries; own = seat.own ++ entries; holds = false }

  -- what is kept of a seat that is taken in by another
  abbrev pub as_joined : SeatState E N → Joined E
  as_joined seat = record { number = seat.number; own = seat.own }

  -- the first seat has taken in the second, and what that had taken in
  abbrev pub after_join : SeatState E N → SeatState E N → SeatState E N
  after_join into from = record into {
    seen = longer into.seen from.seen;
    joined = into.joined ++ as_joined from ∷ from.joined;
    past = into.seen ∷ from.seen ∷ into.past ++ from.past;
  }

  -- the numbers of the seat and of those that it has taken in
  abbrev pub numbers_of : SeatState E N → List ℕ
  numbers_of seat = seat.number ∷ map (λ j. j.number) seat.joined

  -- The seat has taken in all other seats of the cell.
  abbrev pub HasTakenInAll : CellState N → SeatState E N → Type 0
  HasTakenInAll cell seat = (number : ℕ) → number < cell.seats → Contains (numbers_of seat) number

  -- The history begins with all that the seat, and those that it has taken in, had seen. Of the number of each it has just the entries that this one made, each once, in their order.
  pub record Agrees (seat : SeatState E N) (history : List (ℕ × E)) : Type 0 where
    pub begins : IsPrefix seat.seen history
    pub own : entries_of seat.number history ≡ seat.own
    pub past : All (λ seen. IsPrefix seen history) seat.past
    pub joined : All (λ j. entries_of j.number history ≡ j.own) seat.joined

  module _ {S : Type 0} (stands : S → List (ℕ × E) → Type 0) where
    -- The turn was free: the seat has now seen the whole history, whose length the word told, and holds the state that stands for it.
    pub record Takes (old : SeatState E N) (held : HeldState S) (new : SeatState E N) : Type 0 where
      pub after : new ≡ after_take (2 * length new.seen) new.seen old
      pub agrees : Agrees old new.seen
      pub entries : held.entries ≡ length new.seen
      pub bounded : held.entries ≤ 2 ^ 62
      pub stand : stands held.state new.seen

    -- The state stands for one history, in which all seats of the cell meet, and which has no other entries.
    pub record Closes (cell : CellState N) (seat : SeatState E N) (state : S) : Type 0 where
      pub history : List (ℕ × E)
      pub stand : stands state history
      pub agrees : Agrees seat history
      pub no_others : (number : ℕ) → cell.seats ≤ number → entries_of number history ≡ []

    -- The state of a cell of three stands for one history, with which all three seats agree, and which has no other entries.
    pub record ClosesThree (first second third : SeatState E N) (state : S) : Type 0 where
      pub history : List (ℕ × E)
      pub stand : stands state history
      pub first_agrees : Agrees first history
      pub second_agrees : Agrees second history
      pub third_agrees : Agrees third history
      pub no_others : (number : ℕ) → 3 ≤ number → entries_of number history ≡ []
