-- What a filler does by a step on a pipe that two threads use.
use Rattle.std.specs.Prelude.{ℕ, ◌≡◌, ◌≤◌, ◌+◌, ◌^◌, Bool, true, false, List, [], ◌∷◌, ◌++◌, length, map, Option, None, Some, Result, Ok, Err, IfSome}
use Rattle.std.specs.List.{flat_map}
use Rattle.edge_core.specs.Device.{SourceState}
use Rattle.relay_model.specs.declared.ending.FillEnd.{FillEnd}
use Rattle.relay_model.specs.declared.ending.FillEnd.TheVariants as taking
use Rattle.turn_cell.specs.Seat.{CellState}
use Rattle.pipe_core.specs.History.{Run, Call, Commit, EndWriter, bytes_of, reader_end}
use Rattle.pipe_core.specs.Legal.{IsLegal}
use Rattle.pipe_state.specs.declared.full.Full as room
use Rattle.pipe_turns.specs.declared.faults.TryFault.{TryFault}
use Rattle.pipe_turns.specs.declared.faults.TryFault.TheVariants as try
use Rattle.pipe_turns.specs.Name.{Name}
use Rattle.pipe_turns.specs.Log.{calls_of}
use Rattle.pipe_turns.specs.Turns.{Seat, Refuses, FindsHeld, FindsWorn}
use Rattle.pipe_shared.specs.Ends.{Writer}
use Rattle.pipe_shared.specs.Attempts.{completed}
use Rattle.relay_engine.specs.Filler.{written, fill_code}
use Rattle.relay_engine.specs.Later.{Later, HearsLater}
use Rattle.relay_engine.specs.Tally.{Spends, tally_of}
use Rattle.relay_engine.specs.Filling.{FillingState, FillsOn, HasTaken}
use Rattle.relay_engine.specs.WriterEnds.{FindsNoRoom, HasWritten, IsOthers, RefusesWriter, drafting}
use Rattle.relay_engine.specs.declared.filling.Filled.{Filled}
use Rattle.relay_engine.specs.declared.filling.Filled.TheVariants as filled
use Rattle.relay_engine.specs.declared.pipe_filler.FillerEnd.{FillerEnd}
use Rattle.relay_engine.specs.declared.pipe_filler.FillerEnd.TheVariants.{Open, Closed}
use Rattle.relay_engine.specs.declared.pipe_filler.FillStep.{FillStep}
use Rattle.relay_engine.specs.declared.pipe_filler.FillStep.TheVariants.{Moved, Paused, Full, Busy, Worn, Done}

-- How many bytes are taken at most and were taken, whether a commit is owed, how many bytes a refused commit has left drafted, the writing end, of which its seat is left once the writer has
-- completed, why no more is taken, if so, and whether the writer has completed for it.
pub record FillerState : Type 0 where
  pub limit : ℕ
  pub taken : ℕ
  pub owed : Bool
  pub drafted : ℕ
  pub end : Writer
  pub ending : Option FillEnd
  pub done : Bool

abbrev pub writer_in : FillerEnd → Writer
writer_in (Open w) = w
writer_in (Closed seat) = completed seat

abbrev pub is_closed : FillerEnd → Bool
is_closed (Open w) = false
is_closed (Closed seat) = true

abbrev pub filler_of : FillingState → FillerEnd → Option FillEnd → FillerState
filler_of f end ending = record { limit = f.limit; taken = f.taken; owed = f.owed; drafted = f.drafted; end = writer_in end; ending = ending; done = is_closed end }

abbrev pub filling_of : FillerState → FillingState
filling_of f = record { limit = f.limit; taken = f.taken; owed = f.owed; drafted = f.drafted }

-- all that the end has seen
abbrev pub seen_by : Writer → List Call
seen_by w = calls_of w.seat.seen

-- the bytes of its commits, and behind them what is drafted
abbrev pub all_of : Writer → List ℕ
all_of w = written (seen_by w) ++ bytes_of w.draft

-- Nothing was taken yet, and more may be.
abbrev pub IsUnused : FillerState → Type 0
IsUnused f = (all_of f.end ≡ []) × (f.ending ≡ None) × (f.done ≡ false)

-- What was taken is committed or drafted; drafted only where a commit is owed and more may be taken. A reader that is said to be gone was seen to have completed.
pub record IsFiller (f : FillingState) (end : FillerEnd) (ending : Option FillEnd) : Type 0 where
  pub taken : HasTaken HasWritten drafting f (writer_in end) (seen_by (writer_in end)) (all_of (writer_in end))
  pub within : f.taken ≤ f.limit
  pub small : f.limit ≤ 2 ^ 40
  pub settled : IfSome ending (λ _. (writer_in end).draft ≡ [])
  pub gone : (code : ℕ) → ending ≡ Some (taking.Gone code) → reader_end (seen_by (writer_in end)) ≡ Some code

-- The writer has completed for this end, behind commits alone, by which all that was taken is committed.
pub record HasEnded (end : FillEnd) (w : Writer) : Type 0 where
  pub found : List Call
  pub seen : seen_by w ≡ EndWriter (fill_code end) ∷ found
  pub gone : (code : ℕ) → end ≡ taking.Gone code → reader_end found ≡ Some code
  pub commits : List (List Run)
  pub own : w.seat.own ≡ map (λ runs. Commit runs) commits ++ EndWriter (fill_code end) ∷ []
  pub bytes : flat_map bytes_of commits ≡ all_of w

-- whether the writer has completed behind a step
abbrev pub is_done : FillStep → Bool
is_done (Done end) = true
is_done step = false

-- whether a commit is owed, where a step says so
abbrev pub OwesBy : FillStep → Bool → Type 0
OwesBy (Paused unexamined) owed = owed ≡ true
OwesBy (Busy word) owed = Unit {0}
OwesBy (Worn entries) owed = Unit {0}
OwesBy (Done end) owed = Unit {0}
OwesBy step owed = owed ≡ false

-- where no call was refused
abbrev pub IfAnswered : FillStep → Type 0 → Type 0
IfAnswered (Busy word) P = Unit {0}
IfAnswered (Worn entries) P = Unit {0}
IfAnswered step P = P

-- The completion was made, or refused. What was taken stays.
abbrev pub CompletesBy : FillStep → FillEnd → Writer → Writer → Type 0
CompletesBy (Done told) end w w' = (told ≡ end) × HasEnded end w' × (all_of w' ≡ all_of w) × Spends 0 (tally_of w.seat) (tally_of w'.seat)
CompletesBy (Busy word) end w w' = FindsHeld word w.seat w'.seat × (all_of w' ≡ all_of w)
CompletesBy (Worn entries) end w w' = FindsWorn entries w.seat w'.seat × (all_of w' ≡ all_of w)
CompletesBy step end w w' = ⊥

-- What stands behind the part that knows no pipe, which has left the end so: where the taking has ended by it, an attempt at the
-- completion, and else nothing.
abbrev pub Follows : Result (Filled room.Full) TryFault → Writer → FillStep → FillerState → Type 0
Follows (Ok (filled.Moved n)) w step new = (step ≡ Moved n) × (new.end ≡ w) × (new.ending ≡ None)
Follows (Ok (filled.Paused unexamined)) w step new = (step ≡ Paused unexamined) × (new.end ≡ w) × (new.ending ≡ None)
Follows (Ok (filled.Full full)) w step new = (step ≡ Full full) × (new.end ≡ w) × (new.ending ≡ None)
Follows (Ok (filled.Ended end)) w step new = (new.ending ≡ Some end) × CompletesBy step end w new.end
Follows (Err (try.Busy word)) w step new = (step ≡ Busy word) × (new.end ≡ w) × (new.ending ≡ None)
Follows (Err (try.Worn entries)) w step new = (step ≡ Worn entries) × (new.end ≡ w) × (new.ending ≡ None)

-- One step of the part that knows no pipe, and what follows.
pub record TakesOn (pipe : CellState Name) (old : FillerState) (before : SourceState) (step : FillStep) (new : FillerState) (after : SourceState) : Type 0 where
  pub answer : Result (Filled room.Full) TryFault
  pub writer : Writer
  pub fills : FillsOn HasWritten IsOthers drafting RefusesWriter pipe.name.options (FindsNoRoom pipe) (filling_of old) old.end before answer (filling_of new) writer after (seen_by old.end) (all_of old.end)
  pub follows : Follows answer writer step new

-- One step, by whether the taking had ended. Once it has nothing is read, and the completion alone is tried.
abbrev pub StepsFrom : Option FillEnd → CellState Name → FillerState → SourceState → FillStep → FillerState → SourceState → Type 0
StepsFrom None pipe old before step new after = TakesOn pipe old before step new after
StepsFrom (Some end) pipe old before step new after = (after ≡ before) × (filling_of new ≡ filling_of old) × (new.ending ≡ Some end) × CompletesBy step end old.end new.end

abbrev pub StepsOn : CellState Name → FillerState → SourceState → FillStep → FillerState → SourceState → Type 0
StepsOn pipe old before step new after = StepsFrom old.ending pipe old before step new after

-- The taking has ended by the step of the part that knows no pipe, or had ended before.
abbrev pub EndsFrom : Option FillEnd → CellState Name → FillEnd → FillerState → SourceState → FillerState → SourceState → Type 0
EndsFrom None pipe end old before new after = FillsOn HasWritten IsOthers drafting RefusesWriter pipe.name.options (FindsNoRoom pipe) (filling_of old) old.end before (Ok (filled.Ended end)) (filling_of new) new.end after (seen_by old.end) (all_of old.end)
EndsFrom (Some was) pipe end old before new after = (end ≡ was) × (new ≡ old) × (after ≡ before)

-- What stands before the completion: the whole step, or the end of the taking.
abbrev pub TakesOrEnds : CellState Name → FillerState → SourceState → Result FillStep FillEnd → FillerState → SourceState → Type 0
TakesOrEnds pipe old before (Ok step) new after = StepsOn pipe old before step new after × (is_done step ≡ false)
TakesOrEnds pipe old before (Err end) new after = EndsFrom old.ending pipe end old before new after × (new.ending ≡ Some end)

-- how a step answers behind an attempt at the completion
abbrev pub closed_as : FillEnd → Result (Unit {0}) TryFault → FillStep
closed_as end (Ok done) = Done end
closed_as end (Err (try.Busy word)) = Busy word
closed_as end (Err (try.Worn entries)) = Worn entries

-- how many exchanges of a step were refused: that of its last call, or none
abbrev pub refused_calls : FillStep → ℕ
refused_calls (Busy word) = 1
refused_calls (Worn entries) = 1
refused_calls step = 0

-- Each exchange of a step has made an entry, but that of a call which was refused, and at most one that asked for room.
abbrev pub SpendsBy : FillStep → Writer → Writer → Type 0
SpendsBy step w w' = (asked : ℕ) × (asked ≤ 1) × Spends (asked + refused_calls step) (tally_of w.seat) (tally_of w'.seat)

-- ---- the completion

-- The writer has completed with a code, behind others' calls. All its other calls are commits.
pub record Completes (code : ℕ) (w : Writer) (seat : Seat) : Type 0 where
  pub found : List Call
  pub later : Later IsOthers (seen_by w) found
  pub seen : calls_of seat.seen ≡ EndWriter code ∷ found
  pub legal : IsLegal (calls_of seat.seen)
  pub commits : List (List Run)
  pub own : seat.own ≡ map (λ runs. Commit runs) commits ++ EndWriter code ∷ []
  pub bytes : flat_map bytes_of commits ≡ written found
  pub spent : Spends 0 (tally_of w.seat) (tally_of seat)

-- It may be completed: nothing is drafted, and what was committed is no more than a filler takes.
pub record MayClose (w : Writer) : Type 0 where
  pub settled : w.draft ≡ []
  pub legal : IsLegal (seen_by w)
  pub small : length (written (seen_by w)) ≤ 2 ^ 40

abbrev pub Closes : ℕ → FillerEnd → Result (Unit {0}) TryFault → FillerEnd → Type 0
Closes code (Open w) (Ok done) (Closed seat) = Completes code w seat
Closes code (Open w) (Err fault) (Open w') = Refuses fault w.seat w'.seat × (w'.draft ≡ w.draft) × HearsLater HasWritten IsOthers (seen_by w) w'
Closes code old result new = ⊥
