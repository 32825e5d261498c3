-- A reader over a source, and when it stands for a history of a pipe's calls.
use Rattle.std.specs.Prelude.{ℕ, ◌≡◌, List, Option, IfSome, IsNone}
use Rattle.std.specs.Io.KnownBytes.{Consumes, IsAtEnd}
use Rattle.edge_core.specs.Device.{SourceState}
use Rattle.pipe_core.specs.History.{Call, writer_end, reader_end}
use Rattle.pipe_core.specs.Progress.{total}
use Rattle.pipe_core.specs.Bytes.{capacity_of}
use Rattle.pipe_core.specs.Pipe.{Pipe, HoldsFor}

-- The source, and the pipe whose writer it is.
pub record ReaderState : Type 0 where
  pub source : SourceState
  pub pipe : Pipe

-- how many bytes a reader has room for
abbrev pub room_for : ReaderState → ℕ
room_for r = capacity_of r.pipe.bytes

-- the length of the lend, where one stands
abbrev pub lend_len : ReaderState → Option ℕ
lend_len r = r.pipe.control.lent

-- The reader stands for a lawful history that never pauses. Where its source told at first which bytes it has, these are what was committed and then
-- what it still has; and the writer completes, with code 0, only where it has no more.
pub record Stands (first : Option (List ℕ)) (r : ReaderState) (h : List Call) : Type 0 where
  pub holds : HoldsFor r.pipe h
  pub given : Consumes first r.source.left (total h)
  pub ended : IfSome (writer_end h) (λ code. (code ≡ 0) × IsAtEnd r.source.left)
  pub attended : IsNone (reader_end h)
  pub unpaused : r.pipe.control.pause ≡ 0
