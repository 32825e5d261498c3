-- None of the bytes so far is a line feed.
use Rattle.std.proofs.Common.{◌≤◌, ◌+◌, ◌-◌, min}
use Rattle.frame_fronts.specs.Fronts.{IsClear}
use Rattle.frame_fronts.proofs.clean.clear_lanes.Given as goal

abbrev pub invariant-loop-done : goal.invariant-loop-done
invariant-loop-done l = record {
  few : l.done ≤ l.len + 15;
  clear : IsClear l.bytes l.from (l.from + min l.done l.len);
}

abbrev pub decreases-loop-done : goal.decreases-loop-done
decreases-loop-done l = (l.len + 16) - l.done
