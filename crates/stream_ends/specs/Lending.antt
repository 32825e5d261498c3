-- What a loan of a writer's free part leaves: what the borrower wrote stands at its front, and all else is as it was.
use Rattle.std.specs.Prelude.{ℕ, List}
use Rattle.pipe_core.specs.Bytes.{overwritten}
use Rattle.stream_ends.specs.Writer.{WriterState}

abbrev pub with_spare : WriterState → List ℕ → WriterState
with_spare w bytes = record w { free = overwritten w.free bytes }
