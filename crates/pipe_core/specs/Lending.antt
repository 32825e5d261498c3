-- What a loan of the free part leaves: what the borrower wrote stands at its front, and all else is as it was.
use Rattle.std.specs.Prelude.{ℕ, List}
use Rattle.std.specs.Borrow.{Lends, MutBor, Fml, Array, u8}
use Rattle.pipe_core.specs.Bytes.{Bytes, overwritten}
use Rattle.pipe_core.specs.Pipe.{Pipe}
use Rattle.pipe_core.specs.contracts.buffer.Buffer as buffer
use Rattle.pipe_core.specs.contracts.plain_pipe.PlainPipe as pipe

abbrev pub with_free : Bytes → List ℕ → Bytes
with_free b w = record b { free = overwritten b.free w }

abbrev pub LendsFree : MutBor Bytes → MutBor (List ℕ) → Fml
LendsFree b r = Lends buffer.the_row (Array u8 0) b r (with_free b.now)

abbrev pub with_spare : Pipe → List ℕ → Pipe
with_spare p w = record p { bytes = with_free p.bytes w }

abbrev pub LendsSpare : MutBor Pipe → MutBor (List ℕ) → Fml
LendsSpare p r = Lends pipe.the_row (Array u8 0) p r (with_spare p.now)
