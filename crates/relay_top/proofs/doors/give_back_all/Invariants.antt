-- The devices of the names that went by came back, and their answers are kept.
use Rattle.std.proofs.Common.{◌≡◌, ◌≤◌, map}
use Rattle.std.specs.Prelude.{vec_capacity, vec_len}
use Rattle.relay_model.specs.Devices.{HasComeBack, devices_of}
use Rattle.relay_top.proofs.doors.give_back_all.Given as goal

abbrev pub invariant-loop-done : goal.invariant-loop-done
invariant-loop-done g l =
    HasComeBack (map (λ done. devices_of (g.D.Inlet.Source.state done.inlet) (g.D.Outlet.Sink.state done.outlet)) l.yielded) (g.D.Doors.state l.fn.doors) (g.D.Doors.state l.doors)
    × (l.answers.items ≡ map (λ done. done.report) l.yielded)
    × (vec_len l.fn.finished ≤ vec_capacity l.answers)
