-- What fills a pipe.
use Rattle.std.specs.Prelude.{◌≡◌, ◌≤◌, ◌+◌, ◌-◌, ◌*◌, ℕ, List, [], ◌∷◌, length, take, drop, IsSome, if◌then◌else◌}
use Rattle.pipe_core.specs.History.{Call, bytes_of}
use Rattle.pipe_core.specs.Pipe.{kept}
use Rattle.pipe_state.specs.Fetched.{Fetched}
use Rattle.pipe_state.specs.Held.{HoldsRuns, PipeHeld}
use Rattle.pipe_state.specs.Writing.{WritingState}
use Rattle.pipe_state.specs.declared.full.Full.{Full}

-- how many of these the writer has finished
abbrev pub finished_len : List Fetched → ℕ
finished_len [] = 0
finished_len (s ∷ segments) = (if s.finished then 1 else 0) + finished_len segments

-- No segment is at home: the writer has not finished some, the reader has not fetched some that are finished, and has fetched others,
-- which makes all. Each but one is so full that it lacks room for the hint, by what is kept for the reader and what is drafted; and
-- once the reader has completed, none is finished.
pub record IsFull (hint : ℕ) (told : Full) (p : PipeHeld) (w : WritingState) : Type 0 where
  pub home : p.segments.home ≡ []
  pub writer : told.writer ≡ length w.has.segments
  pub waiting : told.waiting ≡ finished_len (drop (length p.segments.reader.segments) p.segments.live)
  pub reader : told.reader ≡ finished_len (take (length p.segments.reader.segments) p.segments.live)
  pub sum : told.writer + told.waiting + told.reader ≡ length p.segments.blocks
  pub bound : (h : List Call) → HoldsRuns p h → (w.count - 1) * (w.size - hint + 1) ≤ length (kept h) + length (bytes_of w.draft)
  pub alone : IsSome p.control.gone → (told.waiting ≡ 0) × (told.reader ≡ 0)
