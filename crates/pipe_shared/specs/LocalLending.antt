-- What a loan of the free part of a pipe for one thread leaves: what the borrower wrote stands at its front, and all else is as it was.
use Rattle.std.specs.Prelude.{ℕ, List}
use Rattle.std.specs.Vec.{with_items_from}
use Rattle.std.specs.Borrow.{Lends, MutBor, Fml, Array, u8}
use Rattle.pipe_core.specs.Bytes.{overwritten}
use Rattle.pipe_shared.specs.Local.{Local}
use Rattle.pipe_shared.specs.declared.local_writer.LocalWriter.{LocalWriter}
use Rattle.pipe_shared.specs.contracts.local.LocalPipe as local
use Rattle.pipe_shared.specs.contracts.local_writer.LocalWriter as writer

abbrev pub with_spare : LocalWriter → List ℕ → LocalWriter
with_spare (LocalWriter.Going w) ws = LocalWriter.Going (record w { free = overwritten w.free ws })
with_spare (LocalWriter.Completed none) ws = LocalWriter.Completed (with_items_from none 0 ws)

abbrev pub LendsFree : MutBor LocalWriter → MutBor (List ℕ) → Fml
LendsFree w r = Lends writer.the_row (Array u8 0) w r (with_spare w.now)

abbrev pub LendsLocal : MutBor Local → MutBor (List ℕ) → Fml
LendsLocal p r = Lends local.the_row (Array u8 0) p r (λ ws. record p.now { free = overwritten p.now.free ws })
