-- The devices of the names that went by are out.
use Rattle.std.proofs.Common.{◌≡◌, ◌≤◌, ◌+◌, List, ◌++◌, length}
use Rattle.std.specs.List.{AllZip}
use Rattle.std.specs.Prelude.{String, vec_capacity, vec_len}
use Rattle.std.specs.declared.alloc.Global.{Global}
use Rattle.relay_words.specs.Words.{texts}
use Rattle.relay_model.specs.Devices.{devices_of, with_out}
use Rattle.relay_top.specs.Batch.{AreFreshOf}
use Rattle.relay_top.proofs.doors.open_all.Given as goal

abbrev pub invariant-loop-name : goal.invariant-loop-name
invariant-loop-name g l = (done : List (String Global)) × (l.fn.names ≡ done ++ l.rest)
    × AllZip (λ name task. AreFreshOf (g.D.Doors.state l.fn.doors).told name (devices_of (g.D.Inlet.Source.state task.inlet) (g.D.Outlet.Sink.state task.outlet))) (texts done) l.tasks.items
    × (g.D.Doors.state l.doors ≡ with_out (length done) (g.D.Doors.state l.fn.doors))
    × (vec_len l.tasks + length l.rest ≤ vec_capacity l.tasks)

abbrev pub decreases-loop-name : goal.decreases-loop-name
decreases-loop-name g l = length l.rest
