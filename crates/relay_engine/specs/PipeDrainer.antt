-- A drainer on a pipe for two threads, and what its steps come to.
use Rattle.std.specs.Prelude.{ℕ, ◌≡◌, ◌≢◌, Bool, false, List, [], ◌∷◌, ◌++◌, Option, Some, None, IsSomeAnd, option_map}
use Rattle.edge_core.specs.Device.{SinkState}
use Rattle.turn_cell.specs.Seat.{CellState, IsIdle}
use Rattle.pipe_core.specs.History.{Call, EndReader, seat_of}
use Rattle.pipe_core.specs.Legal.{IsLegal}
use Rattle.pipe_state.specs.declared.options.Options.{Options}
use Rattle.pipe_turns.specs.Name.{Name}
use Rattle.pipe_turns.specs.declared.faults.TryFault.{TryFault}
use Rattle.pipe_turns.specs.declared.faults.TryFault.TheVariants as try
use Rattle.pipe_turns.specs.Log.{calls_of}
use Rattle.pipe_core.specs.declared.reply.Wake.{Wake}
use Rattle.pipe_core.specs.Answers.{Woke}
use Rattle.pipe_turns.specs.Turns.{Refuses, Seat}
use Rattle.pipe_turns.specs.Heard.{CallsBehind, Hears}
use Rattle.pipe_shared.specs.Ends.{Reader}
use Rattle.relay_engine.specs.Ending.{is_sink_fault}
use Rattle.relay_engine.specs.Drainer.{end_code}
use Rattle.relay_engine.specs.ReaderEnds.{RefusesReader, lent_len, reader_tally}
use Rattle.relay_engine.specs.Sides.{Concludes}
use Rattle.relay_engine.specs.Tally.{Spends, tally_of}
use Rattle.relay_engine.specs.Draining.{DrainingState, GainsBy, HasPassed, Idles, IsRefused, IsWithin, MovesBy, lent_for, owes_fault}
use Rattle.relay_engine.specs.declared.drain_end.DrainEnd.{DrainEnd}
use Rattle.relay_engine.specs.declared.draining.Owed.{Owed}
use Rattle.relay_engine.specs.declared.pipe_drainer.DrainStep.{DrainStep}
use Rattle.relay_engine.specs.declared.pipe_drainer.DrainStep.TheVariants.{Moved, Idle, Busy, Worn, Done}

-- What it has passed on, its end while that goes on, the end for which the reader is still to complete, and the seat of a reader that has.
pub record DrainerState : Type 0 where
  pub draining : DrainingState
  pub end : Option Reader
  pub ending : Option DrainEnd
  pub done : Option Seat

-- others than the reader
abbrev pub NotReaders : Call → Type 0
NotReaders call = seat_of call ≢ 1

-- what a reader's end has seen
abbrev pub seen_by : Reader → List Call
seen_by r = calls_of r.seat.seen

-- What was written is what was passed on, or all that is to be written, where the reader is still to complete.
abbrev pub StandsAt : Option DrainEnd → DrainingState → Reader → List ℕ → Type 0
StandsAt None d r text = HasPassed d (seen_by r) text × (lent_len r ≡ lent_for d.owed) × IsWithin d.owed
StandsAt (Some end) d r text = Concludes d.drained.job d.drained.frames d.drained.written (seen_by r) text end

-- A drainer whose reader has not completed has written this text.
pub record IsDraining (d : DrainerState) (text : List ℕ) : Type 0 where
  pub reader : Reader
  pub is : d.end ≡ Some reader
  pub legal : IsLegal (seen_by reader)
  pub stands : StandsAt d.ending d.draining reader text

-- Its reader has completed for this end.
pub record IsDone (d : DrainerState) (end : DrainEnd) (text : List ℕ) : Type 0 where
  pub seat : Seat
  pub is : d.done ≡ Some seat
  pub found : List Call
  pub seen : calls_of seat.seen ≡ EndReader (end_code end) ∷ found
  pub concludes : Concludes d.draining.drained.job d.draining.drained.frames d.draining.drained.written found text end
  pub calls : List Call
  pub own : seat.own ≡ calls ++ EndReader (end_code end) ∷ []

-- Its reader, while it has not completed, has written some text.
abbrev pub IsDrainer : DrainerState → Type 0
IsDrainer d = (reader : Reader) → d.end ≡ Some reader → (text : List ℕ) × IsDraining d text

-- All that its steps have begun is done.
abbrev pub OwesNothing : DrainerState → Type 0
OwesNothing d = (d.ending ≡ None) × (d.draining.owed ≡ None)

-- Nothing was written yet.
abbrev pub IsUnwritten : DrainerState → Type 0
IsUnwritten d = OwesNothing d × (d.draining.drained.written ≡ 0)

-- What a step came to, of a drainer whose end was `r`: with it the drainer has written this text.
abbrev pub BehindStep : DrainStep → DrainerState → Reader → List ℕ → DrainerState → List ℕ → Type 0
BehindStep (Done end) d r gain d' text = (done : IsDone d' end text) × Spends 0 (reader_tally r) (tally_of done.seat)
BehindStep (Idle examined) d r gain d' text = (to : IsDraining d' text) × Idles NotReaders d.draining (seen_by r) gain examined d'.draining (seen_by to.reader) × OwesNothing d' × Spends 0 (reader_tally r) (reader_tally to.reader)
BehindStep (Moved frames) d r gain d' text = (to : IsDraining d' text) × MovesBy NotReaders d.draining.owed d.draining (seen_by r) frames d'.draining (seen_by to.reader) × OwesNothing d' × Spends 0 (reader_tally r) (reader_tally to.reader)
BehindStep (Busy word) d r gain d' text = (to : IsDraining d' text) × IsRefused RefusesReader reader_tally (try.Busy word) r to.reader
BehindStep (Worn entries) d r gain d' text = (to : IsDraining d' text) × IsRefused RefusesReader reader_tally (try.Worn entries) r to.reader

-- an end for a call of the sink that failed is owed
abbrev pub owes_end : Option DrainEnd → Option Owed → Bool
owes_end None owed = owes_fault owed
owes_end (Some end) owed = is_sink_fault end

-- a call of the sink has failed
abbrev pub step_failed : DrainStep → DrainerState → Bool
step_failed (Done end) d = is_sink_fault end
step_failed (Busy word) d = owes_end d.ending d.draining.owed
step_failed (Worn entries) d = owes_end d.ending d.draining.owed
step_failed step d = false

-- What a step put into the sink. One that makes what was owed makes no call of it, and whether one has failed stays.
abbrev pub GainsFor : Option DrainEnd → Option Owed → Bool → SinkState → List ℕ → SinkState → Type 0
GainsFor None owed failed before gain after = GainsBy owed failed before gain after
GainsFor (Some end) owed failed before gain after = (gain ≡ []) × (after ≡ before) × (failed ≡ is_sink_fault end)

-- One step. Its text is that of the steps before with what this one put into the sink.
pub record StepsDrainer (d : DrainerState) (before : SinkState) (step : DrainStep) (d' : DrainerState) (after : SinkState) : Type 0 where
  pub gain : List ℕ
  pub gained : GainsFor d.ending d.draining.owed (step_failed step d') before gain after
  pub behind : (text : List ℕ) → (from : IsDraining d text) → BehindStep step d from.reader gain d' (text ++ gain)
  pub job : d'.draining.drained.job ≡ d.draining.drained.job

-- its seat behind a step: that of its end, or that of a reader that has completed
abbrev pub seat_behind : DrainStep → DrainerState → Option Seat
seat_behind (Done end) d = d.done
seat_behind step d = option_map (λ r. r.seat) d.end

-- how many exchanges of a step have made no entry: that of its last call, where it was refused
abbrev pub refused_calls : DrainStep → ℕ
refused_calls (Busy word) = 1
refused_calls (Worn entries) = 1
refused_calls step = 0

-- Each exchange of a step has made an entry, but that of a call which was refused.
abbrev pub SpendsBy : DrainStep → DrainerState → DrainerState → Type 0
SpendsBy step d d' = IsSomeAnd d.end (λ r. IsSomeAnd (seat_behind step d') (λ seat. Spends (refused_calls step) (reader_tally r) (tally_of seat)))

-- Its end, or its seat once it has completed, is one of this pipe's.
abbrev pub IsOfPipe : CellState Name → DrainStep → DrainerState → Type 0
IsOfPipe pipe (Done end) d = IsSomeAnd d.done (λ seat. IsIdle pipe seat)
IsOfPipe pipe step d = IsSomeAnd d.end (λ r. IsIdle pipe r.seat)

-- The reader has completed behind what others had done.
pub record EndsReader (code : ℕ) (r : Reader) (seat : Seat) : Type 0 where
  pub options : Options
  pub wake : Wake
  pub behind : CallsBehind options 1 (seen_by r) (EndReader code ∷ []) (Woke wake) (calls_of seat.seen)
  pub calls : List Call
  pub own : seat.own ≡ calls ++ EndReader code ∷ []
  pub spent : Spends 0 (reader_tally r) (tally_of seat)

-- A completion of the reader was refused.
pub record RefusesToEnd (fault : TryFault) (end : DrainEnd) (d : DrainingState) (r : Reader) (d' : DrainerState) : Type 0 where
  pub reader : Reader
  pub drainer : d' ≡ record { draining = d; end = Some reader; ending = Some end; done = None }
  pub refused : Refuses fault r.seat reader.seat
  pub hears : Hears 1 (seen_by r) (seen_by reader)

-- A completion of the reader was made, or refused.
abbrev pub CompletesFor : DrainEnd → DrainingState → Reader → DrainStep → DrainerState → Type 0
CompletesFor end d r (Done told) d' = (told ≡ end) × (d'.draining ≡ d) × ((seat : Seat) × (d'.done ≡ Some seat) × EndsReader (end_code end) r seat)
CompletesFor end d r (Busy word) d' = RefusesToEnd (try.Busy word) end d r d'
CompletesFor end d r (Worn entries) d' = RefusesToEnd (try.Worn entries) end d r d'
CompletesFor end d r step d' = ⊥

abbrev pub refused_step : TryFault → DrainStep
refused_step (try.Busy word) = Busy word
refused_step (try.Worn entries) = Worn entries

-- how a drainer ended by a step, if it did
abbrev pub end_by : DrainStep → Option DrainEnd
end_by (Done end) = Some end
end_by step = None
