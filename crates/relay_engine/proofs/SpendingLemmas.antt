-- How many exchanges the steps of both sides spend.
use Rattle.std.proofs.Common.{◌≡◌, ◌≤◌, ◌+◌, ℕ, List, ◌++◌, length, Option, Some, None, IsSomeAnd, Result, Ok, Err, sym, ap, subst, arith, inl, inr}
use Rattle.std.specs.Prelude.{option_map}
use Rattle.edge_core.specs.Device.{SinkState, SourceState}
use Rattle.relay_model.specs.declared.ending.FillEnd.{FillEnd}
use Rattle.relay_model.specs.declared.ending.FillEnd.TheVariants as taking
use Rattle.turn_cell.specs.Seat.{CellState}
use Rattle.pipe_core.specs.History.{Call}
use Rattle.pipe_state.specs.declared.options.Options.{Options}
use Rattle.pipe_state.specs.declared.full.Full as room
use Rattle.pipe_turns.specs.declared.faults.TryFault.{TryFault}
use Rattle.pipe_turns.specs.declared.faults.TryFault.TheVariants as try
use Rattle.pipe_turns.specs.Name.{Name}
use Rattle.pipe_turns.specs.Turns.{Refuses, Seat}
use Rattle.pipe_shared.specs.Ends.{Reader, Writer}
use Rattle.relay_engine.specs.Tally.{Spends, tally_of}
use Rattle.relay_engine.specs.ReaderEnds.{RefusesReader, reader_tally}
use Rattle.relay_engine.specs.WriterEnds.{FindsNoRoom, HasWritten, IsOthers, RefusesWriter, drafting}
use Rattle.relay_engine.specs.Draining.{IsRefused}
use Rattle.relay_engine.specs.Filling.{CommitsRead, FillingState, FillsOn, IsGranted, Settles, TakesBy}
use Rattle.relay_engine.specs.PipeDrainer.{BehindStep, DrainerState, IsDraining, StepsDrainer, seat_behind}
use Rattle.relay_engine.specs.PipeDrainer as drainer
use Rattle.relay_engine.specs.PipeFiller.{CompletesBy, FillerState, Follows, StepsFrom, all_of, filling_of, seen_by}
use Rattle.relay_engine.specs.PipeFiller as filler
use Rattle.relay_engine.specs.declared.filling.Filled.{Filled}
use Rattle.relay_engine.specs.declared.filling.Filled.TheVariants as filled
use Rattle.relay_engine.specs.declared.pipe_drainer.DrainStep.{DrainStep}
use Rattle.relay_engine.specs.declared.pipe_drainer.DrainStep.TheVariants.{Moved, Idle, Busy, Worn, Done}
use Rattle.relay_engine.specs.declared.pipe_filler.FillStep.{FillStep}
use Rattle.relay_engine.specs.declared.pipe_filler.FillStep.TheVariants as fill
use Rattle.relay_engine.proofs.LaterLemmas.{wins_spends}

-- a call that was refused took one exchange, and made no entry
refused_spends : (fault : TryFault) (old new : Seat) → Refuses fault old new → Spends 1 (tally_of old) (tally_of new)
refused_spends (try.Busy word) old new finds = omega (arith, ap (λ (s : Seat). s.exchanges) finds.after, ap (λ (s : Seat). length s.own) finds.after)
refused_spends (try.Worn entries) old new finds = wins_spends old new finds.wins

-- ---- a drainer

is_some_and : {A : Type 0} (P : A → Type 0) (o : Option A) (x : A) → o ≡ Some x → P x → IsSomeAnd o P
is_some_and P o x is has = subst (λ o. IsSomeAnd o P) (sym is) has

last_refused : (fault : TryFault) (r r' : Reader) → IsRefused RefusesReader reader_tally fault r r' → Spends 1 (reader_tally r) (reader_tally r')
last_refused fault r r' last = let one = refused_spends fault last.found.seat r'.seat last.refused in omega (arith, last.spent, one)

-- told of a drainer that has written some text
pub drainer_spends : (d d' : DrainerState) (before after : SinkState) (step : DrainStep) (text : List ℕ) → IsDraining d text → StepsDrainer d before step d' after → drainer.SpendsBy step d d'
drainer_spends d d' before after step text from steps = is_some_and _ d.end from.reader from.is (by_step step (steps.behind text from))
  where
    seat_in : Option Reader → Option Seat
    seat_in o = option_map (λ (r : Reader). r.seat) o

    by_step : (step : DrainStep) → BehindStep step d from.reader steps.gain d' (text ++ steps.gain)
        → IsSomeAnd (seat_behind step d') (λ seat. Spends (drainer.refused_calls step) (reader_tally from.reader) (tally_of seat))
    by_step (Done end) behind = is_some_and _ d'.done behind.0.seat behind.0.is behind.1
    by_step (Idle n) behind = is_some_and _ (seat_in d'.end) behind.0.reader.seat (ap seat_in behind.0.is) behind.3
    by_step (Moved frames) behind = is_some_and _ (seat_in d'.end) behind.0.reader.seat (ap seat_in behind.0.is) behind.3
    by_step (Busy word) behind = is_some_and _ (seat_in d'.end) behind.0.reader.seat (ap seat_in behind.0.is) (last_refused (try.Busy word) from.reader behind.0.reader behind.1)
    by_step (Worn entries) behind = is_some_and _ (seat_in d'.end) behind.0.reader.seat (ap seat_in behind.0.is) (last_refused (try.Worn entries) from.reader behind.0.reader behind.1)

-- ---- a filler

-- so many exchanges have made no entry, and perhaps one more, which asked for room
abbrev Asks : ℕ → Writer → Writer → Type 0
Asks refused w w' = (asked : ℕ) × (asked ≤ 1) × Spends (asked + refused) (tally_of w.seat) (tally_of w'.seat)

abbrev refused_in : Result (Filled room.Full) TryFault → ℕ
refused_in (Ok filled) = 0
refused_in (Err fault) = 1

asks_none : (refused : ℕ) (w w' : Writer) → Spends refused (tally_of w.seat) (tally_of w'.seat) → Asks refused w w'
asks_none refused w w' spends = (0, omega arith, omega (arith, spends))

asks_then : (n : ℕ) (w v w' : Writer) → Asks 0 w v → Spends n (tally_of v.seat) (tally_of w'.seat) → Asks n w w'
asks_then n w v w' (asked, few, first) second = (asked, few, omega (arith, first, second))

then_asks : (n : ℕ) (w v w' : Writer) → Spends 0 (tally_of w.seat) (tally_of v.seat) → Asks n v w' → Asks n w w'
then_asks n w v w' first (asked, few, second) = (asked, few, omega (arith, first, second))

asks_room : (w w' : Writer) → IsGranted (drafting w) (drafting w') → Asks 0 w w'
asks_room w w' granted = elim granted [
  | inl none ↦ asks_none 0 w w' none
  | inr one ↦ (1, omega arith, one.1)
]

settles_spends : (options : Options) (answer : Result (Filled room.Full) TryFault) (w w' : Writer) (f : FillingState) (h : List Call) (bytes : List ℕ)
    → Settles HasWritten IsOthers drafting RefusesWriter options answer w f w' h bytes → Spends (refused_in answer) (tally_of w.seat) (tally_of w'.seat)
settles_spends options (Ok (filled.Moved n)) w w' f h bytes (size, (canceled, commits)) = commits.spent
settles_spends options (Ok (filled.Paused n)) w w' f h bytes commits = commits.spent
settles_spends options (Ok (filled.Full full)) w w' f h bytes never = absurd never
settles_spends options (Ok (filled.Ended taking.End)) w w' f h bytes never = absurd never
settles_spends options (Ok (filled.Ended taking.Fault)) w w' f h bytes never = absurd never
settles_spends options (Ok (filled.Ended taking.Long)) w w' f h bytes never = absurd never
settles_spends options (Ok (filled.Ended (taking.Gone code))) w w' f h bytes (canceled, commits) = commits.spent
settles_spends options (Err fault) w w' f h bytes (refuses, keeps) = refused_spends fault w.seat w'.seat refuses

commits_read_asks : (options : Options) (answer : Result (Filled room.Full) TryFault) (f f' : FillingState) (w w' : Writer) (before after : SourceState) (h : List Call) (bytes : List ℕ)
    → CommitsRead HasWritten IsOthers drafting RefusesWriter options answer f w before f' w' after h bytes → Asks (refused_in answer) w w'
commits_read_asks options answer f f' w w' before after h bytes c =
    asks_then (refused_in answer) w c.reader w' (asks_room w c.reader c.granted) (settles_spends options answer c.reader w' f' c.found (bytes ++ c.drafts.bytes) c.settles)

module _ (pipe : CellState Name) where
  takes_asks : (answer : Result (Filled room.Full) TryFault) (f f' : FillingState) (w w' : Writer) (before after : SourceState) (h : List Call) (bytes : List ℕ)
      → TakesBy HasWritten IsOthers drafting RefusesWriter pipe.name.options (FindsNoRoom pipe) answer f w before f' w' after h bytes → Asks (refused_in answer) w w'
  takes_asks (Ok (filled.Moved n)) f f' w w' before after h bytes c = commits_read_asks pipe.name.options (Ok (filled.Moved n)) f f' w w' before after h bytes c
  takes_asks (Ok (filled.Paused n)) f f' w w' before after h bytes c = commits_read_asks pipe.name.options (Ok (filled.Paused n)) f f' w w' before after h bytes c
  takes_asks (Ok (filled.Full told)) f f' w w' before after h bytes (full, unread, keeps) = (1, omega arith, wins_spends w.seat w'.seat full.wins)
  takes_asks (Ok (filled.Ended taking.End)) f f' w w' before after h bytes (granted, source, keeps) = asks_room w w' granted
  takes_asks (Ok (filled.Ended taking.Fault)) f f' w w' before after h bytes (granted, source, keeps) = asks_room w w' granted
  takes_asks (Ok (filled.Ended taking.Long)) f f' w w' before after h bytes (granted, source, keeps) = asks_room w w' granted
  takes_asks (Ok (filled.Ended (taking.Gone code))) f f' w w' before after h bytes c = commits_read_asks pipe.name.options (Ok (filled.Ended (taking.Gone code))) f f' w w' before after h bytes c
  takes_asks (Err fault) f f' w w' before after h bytes takes = elim takes [
    | inl refused ↦ asks_none 1 w w' (refused_spends fault w.seat w'.seat refused.0)
    | inr c ↦ commits_read_asks pipe.name.options (Err fault) f f' w w' before after h bytes c
  ]

  fills_asks : (answer : Result (Filled room.Full) TryFault) (f f' : FillingState) (w w' : Writer) (before after : SourceState) (h : List Call) (bytes : List ℕ)
      → FillsOn HasWritten IsOthers drafting RefusesWriter pipe.name.options (FindsNoRoom pipe) f w before answer f' w' after h bytes → Asks (refused_in answer) w w'
  fills_asks answer f f' w w' before after h bytes fills = elim fills [
    | inl anew ↦ takes_asks answer f f' w w' before after h bytes anew.1
    | inr owed ↦ elim owed [
      | inl told ↦ asks_none (refused_in answer) w w' (settles_spends pipe.name.options answer w w' f' h bytes told.settles)
      | inr behind ↦ then_asks (refused_in answer) w behind.writer_then w' behind.commits.spent (takes_asks answer behind.settled f' behind.writer_then w' before after _ bytes behind.takes)
    ]
  ]

completes_spends : (step : FillStep) (end : FillEnd) (w w' : Writer) → CompletesBy step end w w' → Spends (filler.refused_calls step) (tally_of w.seat) (tally_of w'.seat)
completes_spends (fill.Done told) end w w' (told_is, ended, same, spent) = spent
completes_spends (fill.Busy word) end w w' (finds, same) = refused_spends (try.Busy word) w.seat w'.seat finds
completes_spends (fill.Worn entries) end w w' (finds, same) = refused_spends (try.Worn entries) w.seat w'.seat finds
completes_spends (fill.Moved n) end w w' never = absurd never
completes_spends (fill.Paused n) end w w' never = absurd never
completes_spends (fill.Full full) end w w' never = absurd never

-- what follows behind the part that knows no pipe
follows_asks : (answer : Result (Filled room.Full) TryFault) (w v : Writer) (step : FillStep) (new : FillerState) → Asks (refused_in answer) w v → Follows answer v step new → filler.SpendsBy step w new.end
follows_asks (Ok (filled.Moved n)) w v step new asks (is, same, ending) = rw (is, same) asks
follows_asks (Ok (filled.Paused n)) w v step new asks (is, same, ending) = rw (is, same) asks
follows_asks (Ok (filled.Full full)) w v step new asks (is, same, ending) = rw (is, same) asks
follows_asks (Ok (filled.Ended end)) w v step new asks (ended, completes) = asks_then (filler.refused_calls step) w v new.end asks (completes_spends step end v new.end completes)
follows_asks (Err (try.Busy word)) w v step new asks (is, same, ending) = rw (is, same) asks
follows_asks (Err (try.Worn entries)) w v step new asks (is, same, ending) = rw (is, same) asks

pub filler_spends : (pipe : CellState Name) (ending : Option FillEnd) (old new : FillerState) (before after : SourceState) (step : FillStep) → StepsFrom ending pipe old before step new after → filler.SpendsBy step old.end new.end
filler_spends pipe None old new before after step on =
    follows_asks on.answer old.end on.writer step new (fills_asks pipe on.answer (filling_of old) (filling_of new) old.end on.writer before after (seen_by old.end) (all_of old.end) on.fills) on.follows
filler_spends pipe (Some end) old new before after step (unread, same, ended, completes) =
    asks_none (filler.refused_calls step) old.end new.end (completes_spends step end old.end new.end completes)
