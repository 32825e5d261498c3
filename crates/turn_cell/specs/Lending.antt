-- The state, lent out of what a seat holds.
use Rattle.std.specs.Borrow.{Lends, MutBor, Fml}
use denote.RattleType.{RattleType}
use Rattle.turn_cell.specs.Seat.{HeldState}
use Rattle.turn_cell.specs.contracts.held.Held.{the_row}

-- What is left behind the reference is the state that is held, and the number of entries stays.
abbrev pub LendsState : (R : RattleType) → MutBor (HeldState R.Denot) → MutBor R.Denot → Fml
LendsState R held lent = Lends (the_row R) R held lent (λ state. record { state = state; entries = held.now.entries })
