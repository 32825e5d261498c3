-- The devices of the names that went by came back.
use Rattle.std.proofs.Common.{map}
use Rattle.relay_model.specs.Devices.{HasComeBack, devices_of}
use Rattle.relay_top.proofs.doors.give_back_unused.Given as goal

abbrev pub invariant-loop-task : goal.invariant-loop-task
invariant-loop-task g l = HasComeBack (map (λ task. devices_of (g.D.Inlet.Source.state task.inlet) (g.D.Outlet.Sink.state task.outlet)) l.yielded) (g.D.Doors.state l.fn.doors) (g.D.Doors.state l.doors)
