-- A pipe for one thread, as contracts see it, and what its calls make of it.
use Rattle.std.specs.Prelude.{◌≡◌, ◌≢◌, ◌⊎◌, ◌<◌, ◌≤◌, ℕ, List, [], length, max, is_some, Vec, Option, Some, None, IfSome}
use Rattle.std.specs.Vec.{vec_capacity}
use Rattle.std.proofs.Common.{Global}
use Rattle.std.specs.List.{All}
use Rattle.pipe_core.specs.History.{Run, Call, seat_of}
use Rattle.pipe_core.specs.Progress.{total}
use Rattle.pipe_core.specs.Progress as progress
use Rattle.pipe_core.specs.Answers.{Answer, Answers}
use Rattle.seg_block.specs.declared.block.Block.{Block}
use Rattle.pipe_state.specs.declared.options.Options.{Options}
use Rattle.pipe_state.specs.declared.full.Full.{Full}
use Rattle.pipe_state.specs.declared.reading.Reading.{Reading}
use Rattle.pipe_state.specs.Chains.{ChainState}
use Rattle.pipe_state.specs.Full.{IsFull}
use Rattle.pipe_state.specs.Held.{AreAll, HoldsRuns, PipeHeld}
use Rattle.pipe_state.specs.Options.{first_bad}
use Rattle.pipe_state.specs.Released.{names_of}
use Rattle.pipe_state.specs.Segments.{AreSized}
use Rattle.pipe_state.specs.Sides.{reader_has}
use Rattle.pipe_state.specs.Writing.{WritingState}
use Rattle.pipe_turns.specs.Ends.{ReadsFor, WritesFor}
use Rattle.pipe_turns.specs.Lends.{lend_runs, runs_in}
use Rattle.pipe_turns.specs.Log.{calls_of}
use Rattle.pipe_turns.specs.Name.{Name}
use Rattle.pipe_shared.specs.Made.{name_in}
use Rattle.pipe_shared.specs.declared.faults.LocalRoomFault.{LocalRoomFault}
use Rattle.pipe_shared.specs.declared.faults.LocalRoomFault.TheVariants as no_room
use Rattle.pipe_shared.specs.declared.local_writer.LocalWriter.{LocalWriter}
use Rattle.pipe_shared.specs.declared.pipe.Closed.{Closed}

-- Its options, its marks, flags and segments, the draft, the free part of the segment that it fills, the greatest hint for which it left another, and the segments that the reader has, which goes on.
pub record Local : Type 0 where
  pub options : Options
  pub pipe : PipeHeld
  pub draft : List Run
  pub free : List ℕ
  pub hint : ℕ
  pub chain : Option ChainState

-- what is seen of the writer's part, of which there is none once the writer has completed
abbrev pub draft_in : LocalWriter → List Run
draft_in (LocalWriter.Going w) = w.draft
draft_in (LocalWriter.Completed none) = []

abbrev pub free_in : LocalWriter → List ℕ
free_in (LocalWriter.Going w) = w.free
free_in (LocalWriter.Completed none) = none.items

abbrev pub hint_in : LocalWriter → ℕ
hint_in (LocalWriter.Going w) = w.has.hint
hint_in (LocalWriter.Completed none) = 0

abbrev pub chain_in : Option Reading → Option ChainState
chain_in None = None
chain_in (Some r) = Some r.chain

abbrev pub local_of : Options → PipeHeld → LocalWriter → Option Reading → Local
local_of options p w reading = record { options = options; pipe = p; draft = draft_in w; free = free_in w; hint = hint_in w; chain = chain_in reading }

-- An end's part is one of this pipe, and there is one until the end has completed.
abbrev pub HasWriter : Name → Option ℕ → LocalWriter → Type 0
HasWriter name None (LocalWriter.Going w) = WritesFor name w
HasWriter name (Some code) (LocalWriter.Completed none) = none.items ≡ []
HasWriter name ended w = ⊥

abbrev pub HasReader : Name → Option ℕ → Option Reading → Type 0
HasReader name None (Some r) = ReadsFor name r
HasReader name (Some code) None = Unit {0}
HasReader name reader_end reading = ⊥

-- It stands for a history, whose lend lies in the segments that the reader has.
pub record LendsFor (p : PipeHeld) (reading : Option Reading) : Type 0 where
  pub h : List Call
  pub holds : HoldsRuns p h
  pub lent : IfSome reading (λ r. lend_runs h ≡ runs_in (is_some p.control.lent) (reader_has r.chain))

pub record IsLocal (options : Options) (p : PipeHeld) (w : LocalWriter) (reading : Option Reading) (list : Vec Block Global) : Type 0 where
  pub history : LendsFor p reading
  pub good : first_bad options ≡ None
  pub pause : p.control.pause ≡ options.pause
  pub resume : p.control.resume ≡ options.resume
  pub sized : AreSized options.segment p.segments.blocks
  pub count : length p.segments.blocks ≡ options.segments
  pub empty : list.items ≡ []
  pub room : length p.segments.blocks ≤ vec_capacity list
  pub writer : HasWriter (name_in options p) p.control.ended w
  pub reader : HasReader (name_in options p) p.control.gone reading

-- It stands for a history, of which each call was made from its own seat: the writer's calls have the number 0, and the reader's the number 1.
pub record LocalKeeps (p : Local) (history : List (ℕ × Call)) : Type 0 where
  pub seats : All (λ e. e.0 ≡ seat_of e.1) history
  pub stands : HoldsRuns p.pipe (calls_of history)

-- Calls, the latest first, took a pipe to a pipe.
abbrev pub LocalAnswers : Local → List Call → Answer → Local → Type 0
LocalAnswers before calls answer after =
    Answers (λ p. p.pipe.control) (λ p. name_in p.options p.pipe) (λ p. HoldsRuns p.pipe) before.options.pause before.options.resume before calls answer after

-- A segment from home is free as a whole.
pub record LocalGrantsAnew (hint n : ℕ) (old new : Local) : Type 0 where
  pub short : length old.free < hint
  pub home : old.pipe.segments.home ≢ []
  pub whole : n ≡ old.options.segment
  pub greatest : new.hint ≡ max old.hint hint
  pub made : name_in new.options new.pipe ≡ name_in old.options old.pipe
  pub control : new.pipe.control ≡ old.pipe.control
  pub stands : (h : List Call) → HoldsRuns old.pipe h → HoldsRuns new.pipe h

-- The free part is long enough, and at most a segment, and the draft is as it was. Where it was long enough before, nothing has changed.
pub record LocalGrants (hint n : ℕ) (old new : Local) : Type 0 where
  pub small : hint ≤ old.options.segment
  pub enough : hint ≤ n
  pub at_most : n ≤ old.options.segment
  pub free : length new.free ≡ n
  pub draft : new.draft ≡ old.draft
  pub how : (hint ≤ length old.free) × (new ≡ old) ⊎ LocalGrantsAnew hint n old new

-- No segment is at home: this is told of where they are, and so much at least is committed and not consumed, or drafted.
pub record LocalFindsFull (hint : ℕ) (told : Full) (p : Local) : Type 0 where
  pub small : hint ≤ p.options.segment
  pub short : length p.free < hint
  pub part : WritingState
  pub draft : part.draft ≡ p.draft
  pub greatest : part.has.hint ≡ p.hint
  pub count : part.count ≡ p.options.segments
  pub size : part.size ≡ p.options.segment
  pub full : IsFull (max p.hint hint) told p.pipe part

abbrev pub LocalRefuses : ℕ → LocalRoomFault → Local → Type 0
LocalRefuses hint (no_room.TooLarge asked segment) p = (asked ≡ hint) × (segment ≡ p.options.segment) × (segment < hint)
LocalRefuses hint (no_room.Full told) p = LocalFindsFull hint told p

-- What a pipe has carried, for every history that it stood for, and all its blocks came back.
pub record LocalCloses (p : Local) (closed : Closed) : Type 0 where
  pub committed : (h : List Call) → HoldsRuns p.pipe h → closed.committed ≡ length (total h)
  pub consumed : (h : List Call) → HoldsRuns p.pipe h → closed.consumed ≡ progress.consumed h
  pub all : AreAll (names_of closed.blocks.items) p.pipe.segments.blocks
