-- What of a history's runs lies in the segments that aren't at home.
use Rattle.std.specs.Prelude.{◌≡◌, ◌<◌, ◌≤◌, ℕ, List, ◌++◌, length, map}
use Rattle.std.specs.List.{AllByRecursion}
use Rattle.pipe_core.specs.History.{Call, Run, bytes_of}
use Rattle.pipe_core.specs.Progress.{consumed, total}
use Rattle.pipe_core.specs.Lends.{drop_bytes, joined, lent_runs}
use Rattle.seg_block.specs.Numbered.{AreDistinct}
use Rattle.pipe_state.specs.Fetched.{Fetched}
use Rattle.pipe_state.specs.Released.{BlockName}

-- each run has a byte
abbrev pub AreFull : List Run → Type 0
AreFull runs = AllByRecursion (λ r. 0 < length r.bytes) runs

-- these segments, once runs are committed behind them: a run in the last segment makes it longer
abbrev pub extended : List Run → List Run → List Run
extended live runs = joined (live ++ runs)

-- The segments have these bytes, of which the first `skip` were consumed, and the others are what the history lends, run by run.
pub record Lies (h : List Call) (skip : ℕ) (live : List Run) : Type 0 where
  pub lent : lent_runs h ≡ drop_bytes skip live
  pub apart : joined live ≡ live
  pub full : AreFull live
  pub within : skip ≤ length (bytes_of live)
  pub reached : consumed h ≤ length (total h)

-- the segments as runs
abbrev pub run_of : Fetched → Run
run_of segment = record { segment = segment.label.id; bytes = segment.bytes }

abbrev pub runs_of : List Fetched → List Run
runs_of segments = map run_of segments

-- no two blocks have one number
abbrev pub HaveOwnIds : List BlockName → Type 0
HaveOwnIds blocks = AreDistinct (map (λ (b : BlockName). b.id) blocks)
