-- How a pipe begins, and how it ends.
use Rattle.std.specs.Prelude.{◌≡◌, ℕ, ◌≤◌, List, [], length, Some, None}
use Rattle.std.specs.Vec.{vec_capacity}
use Rattle.turn_cell.specs.History.{entries_of}
use Rattle.turn_cell.specs.Seat.{Agrees, CellState, new_seat}
use Rattle.pipe_core.specs.History.{Call}
use Rattle.pipe_core.specs.Progress.{total}
use Rattle.pipe_core.specs.Progress as progress
use Rattle.pipe_state.specs.declared.options.Options.{Options}
use Rattle.pipe_shared.specs.declared.options.MakeError.{MakeError}
use Rattle.pipe_shared.specs.declared.options.MakeError.TheVariants.{BadOptions, OutOfMemory}
use Rattle.pipe_shared.specs.declared.pipe.Closed.{Closed}
use Rattle.pipe_state.specs.Chains.{ChainState}
use Rattle.pipe_state.specs.Options.{first_bad}
use Rattle.pipe_state.specs.Held.{AreAll, HoldsRuns, PipeHeld}
use Rattle.pipe_state.specs.Released.{BlockName, names_of}
use Rattle.pipe_turns.specs.Log.{calls_of, IsLawful}
use Rattle.pipe_turns.specs.Turns.{Seat}
use Rattle.pipe_turns.specs.Name.{Name}
use Rattle.pipe_turns.specs.Ends.{ReadsFor, WritesFor}
use Rattle.pipe_shared.specs.declared.pipe.Built.{Built}
use Rattle.pipe_shared.specs.declared.parts.Parts.{Parts}

-- Options are refused for the first field that is out of its range; where none is, want of memory is the one refusal.
abbrev pub RefusesOptions : Options → MakeError → Type 0
RefusesOptions options (BadOptions field number) = first_bad options ≡ Some (field, number)
RefusesOptions options OutOfMemory = first_bad options ≡ None

-- by what the parts of a pipe's ends know their pipe
abbrev pub name_in : Options → PipeHeld → Name
name_in options p = record { options = options; blocks = p.segments.blocks; reader = p.segments.reader_name; writer = p.segments.writer_name }

-- a chain that has no segment yet
abbrev pub no_chain : ℕ → ChainState
no_chain segments = record { links = []; skip = 0; capacity = segments }

-- A pipe has three seats and options that are allowed.
pub record IsPipe (cell : CellState Name) (options : Options) : Type 0 where
  pub seats : cell.seats ≡ 3
  pub named : cell.name.options ≡ options
  pub good : first_bad options ≡ None

-- What a new pipe is put together of: all its blocks are at home, it stands for no call, and the parts of its ends are its own and have no segment yet.
pub record AreParts (options : Options) (blocks : List BlockName) (parts : Parts) : Type 0 where
  pub stands : HoldsRuns parts.pipe []
  pub pause : parts.pipe.control.pause ≡ options.pause
  pub resume : parts.pipe.control.resume ≡ options.resume
  pub made_of : parts.pipe.segments.blocks ≡ blocks
  pub home : parts.pipe.segments.home ≡ blocks
  pub writes : WritesFor (name_in options parts.pipe) parts.writing
  pub reads : ReadsFor (name_in options parts.pipe) parts.reading
  pub untaken : (parts.writing.draft ≡ []) × (parts.writing.free ≡ []) × (parts.writing.has.hint ≡ 0)
  pub unread : parts.reading.chain ≡ no_chain options.segments
  pub empty : parts.list.items ≡ []
  pub room : length blocks ≤ vec_capacity parts.list

-- What a new pipe for two threads is put together of: its cell has these options and blocks, the seats are new, and the parts are the cell's and have no segment yet.
pub record IsBuilt (options : Options) (blocks : List BlockName) (built : Built) : Type 0 where
  pub seats : built.cell.seats ≡ 3
  pub named : built.cell.name.options ≡ options
  pub made_of : built.cell.name.blocks ≡ blocks
  pub writer : built.writer ≡ new_seat built.cell 0
  pub reader : built.reader ≡ new_seat built.cell 1
  pub canceller : built.canceller ≡ new_seat built.cell 2
  pub writes : WritesFor built.cell.name built.writing
  pub reads : ReadsFor built.cell.name built.reading
  pub unread : built.reading.chain ≡ no_chain options.segments
  pub untaken : (built.writing.draft ≡ []) × (built.writing.free ≡ []) × (built.writing.has.hint ≡ 0)

-- What a pipe has carried is told of one lawful history, which begins with all that each of its three seats had seen, has of each number just the entries that this one made, and has no others. All blocks that the pipe was made of came back.
pub record ClosesPipe (blocks : List BlockName) (writer reader canceller : Seat) (closed : Closed) : Type 0 where
  pub writer_number : writer.number ≡ 0
  pub reader_number : reader.number ≡ 1
  pub canceller_number : canceller.number ≡ 2
  pub history : List (ℕ × Call)
  pub lawful : IsLawful history
  pub writer_agrees : Agrees writer history
  pub reader_agrees : Agrees reader history
  pub canceller_agrees : Agrees canceller history
  pub no_others : (number : ℕ) → 3 ≤ number → entries_of number history ≡ []
  pub committed : closed.committed ≡ length (total (calls_of history))
  pub consumed : closed.consumed ≡ progress.consumed (calls_of history)
  pub all : AreAll (names_of closed.blocks.items) blocks
