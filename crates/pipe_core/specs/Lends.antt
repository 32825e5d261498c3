-- What a standing lend shows.
use Rattle.std.specs.Prelude.{ℕ, ◌-◌, ◌==◌, nat_lt, List, [], ◌∷◌, ◌++◌, length, drop, Option, Some, None, if◌then◌else◌}
use Rattle.pipe_core.specs.History.{Run, Call, Read, last_of}
use Rattle.pipe_core.specs.Progress.{committed_runs, consumed, held}
use Rattle.pipe_core.specs.Reads.{read_is_ready}

-- what a call lends: a read that is ready, all that is committed and not consumed
abbrev pub bytes_lent_by : Option (Call × List Call) → Option (List ℕ)
bytes_lent_by (Some (Read n, before)) = if read_is_ready n before then Some (held before) else None
bytes_lent_by last = None

-- the bytes of the lend, where one stands: the reader's last call lends them
abbrev pub lend : List Call → Option (List ℕ)
lend h = bytes_lent_by (last_of 1 h)

-- runs without their first bytes
abbrev pub drop_bytes : ℕ → List Run → List Run
drop_bytes n [] = []
drop_bytes n (r ∷ rs) = if nat_lt n (length r.bytes) then record r { bytes = drop n r.bytes } ∷ rs else drop_bytes (n - length r.bytes) rs

-- a run put before others, one with its neighbour of the same segment
abbrev pub onto_runs : Run → List Run → List Run
onto_runs r [] = r ∷ []
onto_runs r (s ∷ rs) = if r.segment == s.segment then record r { bytes = r.bytes ++ s.bytes } ∷ rs else r ∷ s ∷ rs

abbrev pub joined : List Run → List Run
joined [] = []
joined (r ∷ rs) = onto_runs r (joined rs)

-- the runs of what is committed and not consumed
abbrev pub lent_runs : List Call → List Run
lent_runs h = joined (drop_bytes (consumed h) (committed_runs h))
