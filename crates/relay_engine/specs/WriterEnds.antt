-- What a filler sees of the writing ends of both pipes.
use Rattle.std.specs.Prelude.{◌≡◌, ◌≢◌, List, length, Some, None, IsNone}
use Rattle.turn_cell.specs.Seat.{CellState, IsIdle}
use Rattle.pipe_core.specs.History.{Call, seat_of}
use Rattle.pipe_core.specs.Legal.{IsLegal}
use Rattle.pipe_state.specs.declared.full.Full.{Full}
use Rattle.pipe_turns.specs.Name.{Name}
use Rattle.pipe_turns.specs.declared.faults.TryFault.{TryFault}
use Rattle.pipe_turns.specs.Log.{calls_of}
use Rattle.pipe_turns.specs.Turns.{Refuses}
use Rattle.pipe_shared.specs.Ends.{Writer}
use Rattle.pipe_shared.specs.Granting.{FindsFull}
use Rattle.pipe_shared.specs.Local.{Local, LocalFindsFull}
use Rattle.relay_engine.specs.Filling.{Drafting}
use Rattle.relay_engine.specs.LocalEnds.{made_of}
use Rattle.relay_engine.specs.Tally.{no_tally, tally_of}

-- A writing end is one of this pipe's.
abbrev pub IsWriterOf : CellState Name → Writer → Type 0
IsWriterOf pipe w = IsIdle pipe w.seat

-- It stands for what it has seen, which is lawful.
abbrev pub HasWritten : Writer → List Call → Type 0
HasWritten w h = (h ≡ calls_of w.seat.seen) × IsLegal h

-- the calls that the writer doesn't make
abbrev pub IsOthers : Call → Type 0
IsOthers call = seat_of call ≢ 0

abbrev pub drafting : Writer → Drafting
drafting w = record { draft = w.draft; room = length w.free; tally = tally_of w.seat; reading = None }

abbrev pub writer_made : CellState Name → Writer → Name
writer_made pipe w = pipe.name

abbrev pub RefusesWriter : TryFault → Writer → Writer → Type 0
RefusesWriter fault old new = Refuses fault old.seat new.seat

abbrev pub FindsNoRoom : CellState Name → Full → Writer → Writer → Type 0
FindsNoRoom pipe full old new = FindsFull pipe.name.options 1 full old new

-- ---- a pipe for one thread, whose writer goes on

abbrev pub IsUnended : Unit {0} → Local → Type 0
IsUnended pipe p = IsNone p.pipe.control.ended

abbrev pub local_drafting : Local → Drafting
local_drafting p = record {
  draft = p.draft;
  room = length p.free;
  tally = no_tally;
  reading = Some (record { lent = p.pipe.control.lent; gone = p.pipe.control.gone });
}

abbrev pub local_made : Unit {0} → Local → Name
local_made pipe p = made_of p

abbrev pub IsLocalFull : Unit {0} → Full → Local → Local → Type 0
IsLocalFull pipe full old new = LocalFindsFull 1 full old × (new ≡ old)
