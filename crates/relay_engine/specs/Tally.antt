-- How often an end has turned to its pipe.
use Rattle.std.specs.Prelude.{ℕ, ◌≡◌, ◌+◌, length}
use Rattle.pipe_turns.specs.Turns.{Seat}

-- How many exchanges an end has made with its pipe, and how many entries.
pub record Tally : Type 0 where
  pub exchanges : ℕ
  pub entries : ℕ

-- Each entry took an exchange, and there were so many more: calls that were refused, or that only looked.
abbrev pub Spends : ℕ → Tally → Tally → Type 0
Spends more old new = new.exchanges + old.entries ≡ old.exchanges + new.entries + more

abbrev pub tally_of : Seat → Tally
tally_of seat = record { exchanges = seat.exchanges; entries = length seat.own }

-- A pipe for one thread has no turn to take.
abbrev pub no_tally : Tally
no_tally = record { exchanges = 0; entries = 0 }
