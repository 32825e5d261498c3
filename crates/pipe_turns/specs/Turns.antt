-- What the one exchange of a call tells its seat, and which entries the call makes.
use Rattle.std.specs.Prelude.{◌≡◌, ℕ, ◌+◌, ◌*◌, ◌-◌, ◌^◌, ◌%◌, ◌<◌, ◌≤◌, List, length, reverse, IsNone}
use mathlib.Core.List.{IsPrefix}
use Rattle.turn_cell.specs.History.{entries_of}
use Rattle.turn_cell.specs.Seat.{SeatState, after_find, after_put}
use Rattle.pipe_core.specs.History.{Call, reader_end}
use Rattle.pipe_core.specs.Progress.{total}
use Rattle.pipe_core.specs.Answers.{Answer, answer_at_once}
use Rattle.pipe_state.specs.declared.options.Options.{Options}
use Rattle.pipe_turns.specs.Name.{Name}
use Rattle.pipe_turns.specs.declared.faults.TryFault.{TryFault}
use Rattle.pipe_turns.specs.declared.faults.TryFault.TheVariants as try
use Rattle.pipe_turns.specs.declared.faults.FlushFault.{FlushFault}
use Rattle.pipe_turns.specs.declared.faults.FlushFault.TheVariants as flush
use Rattle.pipe_turns.specs.Log.{calls_of, IsLawful}

-- the seat of an end, as contracts see it: what it has seen, its own entries, the number of its exchanges, and the last word found
abbrev pub Seat : Type 0
Seat = SeatState Call Name

-- From so many entries on a history takes no more.
abbrev pub worn_at : ℕ
worn_at = 2 ^ 62 - 2

-- The exchange found that the turn was held. The seat has learnt the word, and nothing else.
pub record FindsHeld (word : ℕ) (old new : Seat) : Type 0 where
  pub odd : word % 2 ≡ 1
  pub after : new ≡ after_find word old

-- The exchange won the turn, by a word that tells the length of the history. The seat has now seen all of it: it is lawful, it begins with what the seat had seen, and it has no other entries of this seat. Nothing else of the seat has changed.
pub record Wins (old new : Seat) : Type 0 where
  pub after : new ≡ record (after_find (2 * length new.seen) old) { seen = new.seen }
  pub begins : IsPrefix old.seen new.seen
  pub own : entries_of old.number new.seen ≡ old.own
  pub lawful : IsLawful new.seen

-- The turn was won, and the history takes no more entries.
pub record FindsWorn (entries : ℕ) (old new : Seat) : Type 0 where
  pub wins : Wins old new
  pub told : entries ≡ length new.seen
  pub worn : worn_at ≤ entries

-- The turn was won, and so many bytes more would take the total past the most that a pipe carries.
pub record FindsTooMuch (size total_told : ℕ) (old new : Seat) : Type 0 where
  pub wins : Wins old new
  pub unworn : length new.seen < worn_at
  pub attended : IsNone (reader_end (calls_of new.seen))
  pub told : total_told ≡ length (total (calls_of new.seen))
  pub passes : 2 ^ 62 < total_told + size

-- how a call that makes entries is refused: no entry is made
abbrev pub Refuses : TryFault → Seat → Seat → Type 0
Refuses (try.Busy word) old new = FindsHeld word old new
Refuses (try.Worn entries) old new = FindsWorn entries old new

-- the same, where the call commits so many bytes
abbrev pub RefusesFlush : ℕ → FlushFault → Seat → Seat → Type 0
RefusesFlush size (flush.Busy word) old new = FindsHeld word old new
RefusesFlush size (flush.Worn entries) old new = FindsWorn entries old new
RefusesFlush size (flush.TooMuch total_told) old new = FindsTooMuch size total_told old new

-- The turn was won, the history took just these calls of this seat, the latest first, and the answer is the one that they have behind what was found.
pub record Makes (options : Options) (old : Seat) (calls : List Call) (answer : Answer) (new : Seat) : Type 0 where
  pub found : Seat
  pub wins : Wins old found
  pub unworn : length found.seen < worn_at
  pub told : answer ≡ answer_at_once options.pause options.resume calls (calls_of found.seen)
  pub after : new ≡ after_put (reverse calls) found
  pub lawful : IsLawful new.seen
