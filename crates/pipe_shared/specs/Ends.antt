-- What contracts see of the two ends of a pipe, and what is always so of them.
use Rattle.std.specs.Prelude.{◌≡◌, ℕ, Bool, List, Option, Some, IsSome, option_map}
use Rattle.pipe_core.specs.History.{Run, bytes_of, writer_end, reader_end}
use Rattle.pipe_state.specs.Chains.{ChainState}
use Rattle.pipe_state.specs.Sides.{reader_has}
use Rattle.pipe_state.specs.Writing.{WritingState}
use Rattle.pipe_state.specs.declared.reading.Reading.{Reading}
use Rattle.pipe_turns.specs.Name.{Name}
use Rattle.pipe_turns.specs.Log.{calls_of}
use Rattle.pipe_turns.specs.Turns.{Seat}
use Rattle.pipe_turns.specs.Ends.{IsEnd, ReadsFor, WritesFor}
use Rattle.pipe_turns.specs.Holding.{Attends, GoesOn}
use Rattle.pipe_turns.specs.Lends.{lend_runs, runs_in}

-- The writer: its seat, the draft, the free part of the segment that it fills, and the greatest hint for which it left another.
pub record Writer : Type 0 where
  pub seat : Seat
  pub draft : List Run
  pub free : List ℕ
  pub hint : ℕ

-- The reader: its seat, the bytes of the lend, where one stands, and the segments in which they lie.
pub record Reader : Type 0 where
  pub seat : Seat
  pub lent : Option (List ℕ)
  pub chain : ChainState

-- what a chain lends
abbrev pub lent_in : Bool → Reading → Option (List ℕ)
lent_in lending part = option_map bytes_of (runs_in lending (reader_has part.chain))

-- The writer has not completed, and its part is one of its pipe.
pub record IsWriter (seat : Seat) (part : WritingState) : Type 0 where
  pub goes : GoesOn seat
  pub writes : (name : Name) → seat.name ≡ Some name → WritesFor name part

-- The reader has not completed, its part is one of its pipe, and the lend that stands lies in the segments that it has.
pub record IsReader (seat : Seat) (part : Reading) (lending : Bool) : Type 0 where
  pub attends : Attends seat
  pub reads : (name : Name) → seat.name ≡ Some name → ReadsFor name part
  pub lent : lend_runs (calls_of seat.seen) ≡ runs_in lending (reader_has part.chain)

-- an end that has completed
pub record IsWriterDone (seat : Seat) : Type 0 where
  pub end : IsEnd 0 seat
  pub ended : IsSome (writer_end (calls_of seat.seen))

pub record IsReaderDone (seat : Seat) : Type 0 where
  pub end : IsEnd 1 seat
  pub gone : IsSome (reader_end (calls_of seat.seen))
