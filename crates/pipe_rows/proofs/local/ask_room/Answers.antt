-- However it was granted.
use Rattle.std.proofs.Common.{ap, inl, inr}
use Rattle.pipe_shared.specs.Local.{Local}
use Rattle.pipe_rows.proofs.local.ask_room.Goals as goal

pub returns-in-Ok : goal.returns-in-Ok
returns-in-Ok c = elim c.in-Ok.ensures.granted.how [
  | inl same ↦ ap (λ (p : Local). p.pipe.control) same.1
  | inr anew ↦ anew.control
]
