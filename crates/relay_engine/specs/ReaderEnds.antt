-- What an engine sees of the reading end of a pipe: of the end of a pipe for two threads, or of a whole pipe for one thread.
use Rattle.std.specs.Prelude.{ℕ, ◌≡◌, List, length, Option, Some, None, IsNone, option_map}
use Rattle.turn_cell.specs.Seat.{CellState, IsIdle}
use Rattle.pipe_core.specs.History.{Call, Run}
use Rattle.pipe_core.specs.Legal.{IsLegal}
use Rattle.pipe_turns.specs.declared.faults.TryFault.{TryFault}
use Rattle.pipe_turns.specs.Name.{Name}
use Rattle.pipe_turns.specs.Log.{calls_of}
use Rattle.pipe_turns.specs.Turns.{Refuses}
use Rattle.pipe_shared.specs.Ends.{Reader}
use Rattle.pipe_shared.specs.Local.{Local}
use Rattle.relay_engine.specs.LocalEnds.{made_of}
use Rattle.relay_engine.specs.Tally.{Tally, no_tally, tally_of}

-- What no history tells: with which options and of which blocks the pipe was made, and what is drafted.
pub record Aside : Type 0 where
  pub made : Name
  pub draft : List Run

-- ---- a pipe for two threads

-- A reading end is one of this pipe's.
abbrev pub IsReaderOf : CellState Name → Reader → Type 0
IsReaderOf pipe r = IsIdle pipe r.seat

-- It stands for what it has seen, which is lawful.
abbrev pub HasRead : Reader → List Call → Type 0
HasRead r h = (h ≡ calls_of r.seat.seen) × IsLegal h

abbrev pub RefusesReader : TryFault → Reader → Reader → Type 0
RefusesReader fault old new = Refuses fault old.seat new.seat

abbrev pub lent_len : Reader → Option ℕ
lent_len r = option_map length r.lent

abbrev pub reader_tally : Reader → Tally
reader_tally r = tally_of r.seat

-- A reader sees nothing of the writer's own.
abbrev pub nothing_aside : Reader → Option Aside
nothing_aside r = None

-- ---- a pipe for one thread

-- The reader goes on. There is no other pipe that its calls are made on.
abbrev pub IsAttended : Unit {0} → Local → Type 0
IsAttended pipe p = IsNone p.pipe.control.gone

abbrev pub local_tally : Local → Tally
local_tally p = no_tally

abbrev pub lent_local : Local → Option ℕ
lent_local p = p.pipe.control.lent

abbrev pub aside_local : Local → Option Aside
aside_local p = Some (record { made = made_of p; draft = p.draft })
