-- What a loan of the writer's free part leaves: what the borrower wrote stands at its front, and all else is as it was.
use Rattle.std.specs.Prelude.{ℕ, List}
use Rattle.std.specs.Borrow.{Lends, MutBor, Fml, Array, u8}
use Rattle.pipe_core.specs.Bytes.{overwritten}
use Rattle.pipe_shared.specs.Ends.{Writer}
use Rattle.pipe_shared.specs.contracts.ends.WriterEnd as writer

abbrev pub LendsSpare : MutBor Writer → MutBor (List ℕ) → Fml
LendsSpare e r = Lends writer.the_row (Array u8 0) e r (λ w. record e.now { free = overwritten e.now.free w })
