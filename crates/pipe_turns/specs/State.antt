-- When the state of a pipe stands for a history, and what a call makes of it.
use Rattle.std.specs.Prelude.{◌≡◌, ◌≤◌, ℕ, List, [], length}
use Rattle.std.specs.Vec.{vec_capacity}
use Rattle.std.specs.List.{All}
use Rattle.pipe_core.specs.History.{Call, seat_of}
use Rattle.pipe_core.specs.Answers.{Answer, Answers}
use Rattle.pipe_state.specs.Held.{HoldsRuns}
use Rattle.pipe_state.specs.Segments.{AreSized}
use Rattle.pipe_turns.specs.declared.state.SharedPipe.{SharedPipe}
use Rattle.pipe_turns.specs.Name.{Name}
use Rattle.pipe_turns.specs.Log.{calls_of}

abbrev pub name_of : SharedPipe → Name
name_of state = record { options = state.options; blocks = state.pipe.segments.blocks; reader = state.pipe.segments.reader_name; writer = state.pipe.segments.writer_name }

-- The state is that of a pipe with its options, which say how many segments of how many bytes it has, its list is empty and has room for all blocks, and it stands for these calls.
pub record StateHolds (state : SharedPipe) (h : List Call) : Type 0 where
  pub runs : HoldsRuns state.pipe h
  pub pause : state.pipe.control.pause ≡ state.options.pause
  pub resume : state.pipe.control.resume ≡ state.options.resume
  pub sized : AreSized state.options.segment state.pipe.segments.blocks
  pub count : length state.pipe.segments.blocks ≡ state.options.segments
  pub empty : state.list.items ≡ []
  pub room : length state.pipe.segments.blocks ≤ vec_capacity state.list

-- It stands for the calls of a history, each of which was made from its own seat.
pub record Keeps (state : SharedPipe) (history : List (ℕ × Call)) : Type 0 where
  pub seats : All (λ e. e.0 ≡ seat_of e.1) history
  pub stands : StateHolds state (calls_of history)

-- Calls, the latest first, took a state to a state.
abbrev pub StateAnswers : SharedPipe → List Call → Answer → SharedPipe → Type 0
StateAnswers before calls answer after = Answers (λ s. s.pipe.control) name_of StateHolds before.options.pause before.options.resume before calls answer after
