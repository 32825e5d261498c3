-- In which segments a standing lend lies.
use Rattle.std.specs.Prelude.{ℕ, Bool, true, false, List, Option, Some, None, if◌then◌else◌}
use Rattle.pipe_core.specs.declared.reply.ReadReply.{ReadReply}
use Rattle.pipe_core.specs.declared.reply.ReadReply.TheVariants as read
use Rattle.pipe_core.specs.History.{Run, Call, Read, last_of}
use Rattle.pipe_core.specs.Lends.{drop_bytes, lent_runs}
use Rattle.pipe_core.specs.Reads.{read_is_ready}
use Rattle.pipe_state.specs.Sides.{ReaderHas}
use Rattle.pipe_state.specs.Lying.{runs_of}

-- what a call lends, run by run: a read that is ready, all that is committed and not consumed
abbrev pub runs_lent_by : Option (Call × List Call) → Option (List Run)
runs_lent_by (Some (Read n, before)) = if read_is_ready n before then Some (lent_runs before) else None
runs_lent_by last = None

-- the runs of the lend, where one stands: the reader's last call lends them
abbrev pub lend_runs : List Call → Option (List Run)
lend_runs h = runs_lent_by (last_of 1 h)

-- what a reader has that is lent, run by run: nothing where no lend stands
abbrev pub runs_in : Bool → ReaderHas → Option (List Run)
runs_in lending has = if lending then Some (drop_bytes has.skip (runs_of has.segments)) else None

-- whether a read lends, by its reply
abbrev pub is_lending : ReadReply → Bool
is_lending (read.Ready canceled ended len) = true
is_lending (read.Pending examined held) = false

-- the length that a read lends by its reply
abbrev pub len_of : ReadReply → Option ℕ
len_of (read.Ready canceled ended len) = Some len
len_of (read.Pending examined held) = None
