-- What a loan of a free part leaves: what the borrower wrote stands at its front, and all else is as it was.
use Rattle.std.specs.Prelude.{ℕ, List}
use Rattle.std.specs.Borrow.{Lends, MutBor, Fml, Array, u8}
use Rattle.pipe_core.specs.Bytes.{overwritten}
use Rattle.pipe_state.specs.Sides.{FillingState}
use Rattle.pipe_state.specs.contracts.filling.Filling as filling

abbrev pub LendsFree : MutBor FillingState → MutBor (List ℕ) → Fml
LendsFree f r = Lends filling.the_row (Array u8 0) f r (λ w. record f.now { spare = overwritten f.now.spare w })
