-- The rule of a cell's table, which is true between any two of its steps, and what each kind of step tells.
use Rattle.std.specs.Prelude.{◌≡◌, ◌≢◌, ℕ, ◌+◌, ◌*◌, ◌^◌, ◌%◌, ◌<◌, ◌≤◌, ◌==◌, Bool, true, false, List, [], ◌∷◌, ◌++◌, length, Option, Some, None}
use Rattle.std.specs.List.{All, AllPairs}
use mathlib.Core.Option as plain
use mathlib.Core.List.{IsPrefix}
use lib.ListN.{get_elem?}
use Rattle.atomic_table.specs.Seated.{TableId}
use Rattle.atomic_table.specs.Table.{State, Me, Step, rest}
use Rattle.turn_cell.specs.declared.view.SeatView.{SeatView}
use Rattle.turn_cell.specs.declared.view.Joined.{Joined}
use Rattle.turn_cell.specs.History.{entries_of, made_by, longer}
use Rattle.turn_cell.specs.Seat.{SeatState}

-- Whose turn it is: nobody's, with the state at home, or that of the seat with this place in the table.
pub data Turn (S : Type 0) : Type 0 where
  free : S → Turn S
  taken : ℕ → Turn S

module _ {S : Type 0} where
  -- the word: twice the length of the history, and one more while the turn is taken
  abbrev pub word_of : Turn S → ℕ → ℕ
  word_of (free state) n = 2 * n
  word_of (taken place) n = 2 * n + 1

  -- what lies in the slot
  abbrev pub home_of : Turn S → plain.Option (Option S)
  home_of (free state) = plain.some (Some state)
  home_of (taken place) = plain.none

  -- whether the seat at this place has the turn
  abbrev pub is_holder : Turn S → ℕ → Bool
  is_holder (free state) j = false
  is_holder (taken place) j = j == place

-- A seat that was taken in by the one at this place: its entries stay those of its number, which no other seat has.
pub record Keeps {E : Type 0} (log : List (ℕ × E)) (owner : ℕ → ℕ) (place number next : ℕ) (j : Joined E) : Type 0 where
  pub own : entries_of j.number log ≡ j.own
  pub placed : owner j.number ≡ place
  pub apart : j.number ≢ number
  pub below : j.number < next

module _ {E N : Type 0} where
  -- What the seat at a place knows fits the history. `owner` gives the place of the seat that has a number, so no two seats have one.
  pub record Fits (log : List (ℕ × E)) (name : N) (seats : ℕ) (owner : ℕ → ℕ) (place : ℕ) (holds : Bool) (v : SeatView E N) : Type 0 where
    pub named : v.name ≡ Some name
    pub seen : IsPrefix v.seen log
    pub own : entries_of v.number log ≡ v.own
    pub placed : owner v.number ≡ place
    pub below : v.number < v.next
    pub counted : v.seats ≡ seats
    pub within : v.next ≤ v.seats
    pub joined : All (Keeps log owner place v.number v.next) v.joined
    pub distinct : AllPairs (λ a b. a.number ≢ b.number) v.joined
    pub past : All (λ seen. IsPrefix seen log) v.past
    pub rights : (k : ℕ) → v.next ≤ k → k < seats → (owner k ≡ place) × (entries_of k log ≡ [])
    pub marked : v.holds ≡ holds
    pub whole : holds ≡ true → v.seen ≡ log

  -- The state at home stands for the history and has the cell's name; or a seat of the cell has it.
  abbrev pub Lies : {S : Type 0} → (S → List (ℕ × E) → Type 0) → (S → N) → N → List (SeatView E N) → List (ℕ × E) → Turn S → Type 0
  Lies stands name_of name views log (free state) = stands state log × (name_of state ≡ name)
  Lies stands name_of name views log (taken place) = (v : SeatView E N) × (get_elem? views place ≡ plain.some v) × (v.name ≡ Some name)

  -- The rule at one history, one turn, and the place of the seat of each number. A seat that was taken in by another has no name, and is left out.
  pub record Ruled {S : Type 0} (stands : S → List (ℕ × E) → Type 0) (name_of : S → N) (name : N) (seats : ℕ) (s : State (Option S) (SeatView E N)) (log : List (ℕ × E)) (turn : Turn S) (owner : ℕ → ℕ) : Type 0 where
    pub words : s.words ≡ word_of turn (length log) ∷ []
    pub homes : s.homes ≡ home_of turn ∷ []
    pub bounded : length log ≤ 2 ^ 62
    pub lies : Lies stands name_of name s.views log turn
    pub each_seat : (j : ℕ) (v : SeatView E N) (n : N) → get_elem? s.views j ≡ plain.some v → v.name ≡ Some n → Fits log name seats owner j (is_holder turn j) v
    pub no_others : (k : ℕ) → seats ≤ k → entries_of k log ≡ []

  -- There is one history. The word tells its length, and the state stands for it.
  pub record TurnRule {S : Type 0} (stands : S → List (ℕ × E) → Type 0) (name_of : S → N) (name : N) (seats : ℕ) (s : State (Option S) (SeatView E N)) : Type 0 where
    pub log : List (ℕ × E)
    pub turn : Turn S
    pub owner : ℕ → ℕ
    pub kept : Ruled stands name_of name seats s log turn owner

-- the slots that a seat has with it
abbrev pub carried : {S : Type 0} → Bool → List (ℕ × Option S)
carried false = []
carried true = (0, None) ∷ []

module _ {E N : Type 0} where
  -- what contracts see of a seat with this view
  abbrev pub shown : TableId → SeatView E N → SeatState E N
  shown table v = record { table = table; name = v.name; number = v.number; seen = v.seen; own = v.own; holds = v.holds; exchanges = v.exchanges; last = v.last; joined = v.joined; past = v.past }

  -- a seat that has seen this and made nothing, which gives out the numbers from `next` on
  abbrev pub fresh_view : Option N → ℕ → ℕ → ℕ → List (ℕ × E) → SeatView E N
  fresh_view name seats number next seen = record { name = name; number = number; seen = seen; own = []; joined = []; past = []; next = next; seats = seats; holds = false; exchanges = 0; last = 0 }

  -- the first seat has number 0, and gives out all others
  abbrev pub first_view : N → ℕ → SeatView E N
  first_view name seats = fresh_view (Some name) seats 0 1 []

  -- the seat gives out no further number
  abbrev pub view_settled : SeatView E N → SeatView E N
  view_settled v = record v { next = v.seats }

  -- a seat with the next number, which has seen as much, and gives out the numbers behind its own
  abbrev pub view_following : SeatView E N → SeatView E N
  view_following v = fresh_view v.name v.seats v.next (v.next + 1) v.seen

  -- one exchange found this word
  abbrev pub view_after_find : ℕ → SeatView E N → SeatView E N
  view_after_find word v = record v { exchanges = v.exchanges + 1; last = word }

  -- it told that the turn was free: the seat has it, and has seen the history
  abbrev pub view_after_take : List (ℕ × E) → ℕ → SeatView E N → SeatView E N
  view_after_take log word v = record v { seen = log; holds = true; exchanges = v.exchanges + 1; last = word }

  -- the turn was given up, with these entries
  abbrev pub view_after_put : List E → SeatView E N → SeatView E N
  view_after_put es v = record v { seen = v.seen ++ made_by v.number es; own = v.own ++ es; holds = false }

  -- what is kept of a seat that was taken in
  abbrev pub view_as_joined : SeatView E N → Joined E
  view_as_joined w = record { number = w.number; own = w.own }

  -- one seat has taken in another
  abbrev pub view_after_join : SeatView E N → SeatView E N → SeatView E N
  view_after_join v w = record v { seen = longer v.seen w.seen; joined = v.joined ++ view_as_joined w ∷ w.joined; past = v.seen ∷ w.seen ∷ v.past ++ w.past }

  -- a seat that was taken in
  abbrev pub spent_view : SeatView E N
  spent_view = fresh_view None 0 0 0 []

  module _ {S : Type 0} (stands : S → List (ℕ × E) → Type 0) (name_of : S → N) where
    -- The turn was free: the seat has the state, with the slot, and has seen the whole history.
    pub record Wins (m : Me (Option S) (SeatView E N)) (word : ℕ) (m' : Me (Option S) (SeatView E N)) : Type 0 where
      pub state : S
      pub log : List (ℕ × E)
      pub after : m' ≡ (view_after_take log word m.0, (0, Some state) ∷ m.1)
      pub length_told : word ≡ 2 * length log
      pub bounded : length log ≤ 2 ^ 62
      pub begins : IsPrefix m.0.seen log
      pub own : entries_of m.0.number log ≡ m.0.own
      pub past : All (λ seen. IsPrefix seen log) m.0.past
      pub joined : All (λ j. entries_of j.number log ≡ j.own) m.0.joined
      pub stand : stands state log
      pub named : m.0.name ≡ Some (name_of state)

    -- what the exchange of a take tells, by the word that it found
    abbrev pub Tries : Step (Option S) → Me (Option S) (SeatView E N) → ℕ → Me (Option S) (SeatView E N) → Type 0
    Tries step m word m' = (word % 2 ≡ 0 → Wins m word m') × (word % 2 ≡ 1 → m' ≡ (view_after_find word m.0, m.1))

  -- what the store of a put tells
  abbrev pub Puts : {S : Type 0} → List E → Step (Option S) → Me (Option S) (SeatView E N) → ℕ → Me (Option S) (SeatView E N) → Type 0
  Puts es step m word m' = m' ≡ (view_after_put es m.0, rest m.1)
