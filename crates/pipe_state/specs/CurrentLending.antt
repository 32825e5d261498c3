-- What a loan of the free part of the writer's segment leaves.
use Rattle.std.specs.Prelude.{ℕ, List}
use Rattle.std.specs.Vec.{with_items_from}
use Rattle.std.specs.Borrow.{Lends, MutBor, Fml, Array, u8}
use Rattle.pipe_core.specs.Bytes.{overwritten}
use Rattle.pipe_state.specs.declared.current.Current.{Current}
use Rattle.pipe_state.specs.contracts.current.Current.{the_row}

abbrev pub with_room : Current → List ℕ → Current
with_room (Current.Filling f) ws = Current.Filling (record f { spare = overwritten f.spare ws })
with_room (Current.Untaken none) ws = Current.Untaken (with_items_from none 0 ws)

abbrev pub LendsRoom : MutBor Current → MutBor (List ℕ) → Fml
LendsRoom c r = Lends the_row (Array u8 0) c r (with_room c.now)
