-- What a loan of the writer's free part leaves.
use Rattle.std.specs.Prelude.{ℕ, List}
use Rattle.std.specs.Borrow.{Lends, MutBor, Fml, Array, u8}
use Rattle.pipe_core.specs.Bytes.{overwritten}
use Rattle.pipe_state.specs.Writing.{WritingState}
use Rattle.pipe_state.specs.contracts.writing.Writing.{the_row}

abbrev pub LendsWriting : MutBor WritingState → MutBor (List ℕ) → Fml
LendsWriting w r = Lends the_row (Array u8 0) w r (λ ws. record w.now { free = overwritten w.now.free ws })
