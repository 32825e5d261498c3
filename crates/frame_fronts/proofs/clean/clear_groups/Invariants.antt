-- None of the bytes so far is a line feed.
use Rattle.std.proofs.Common.{◌≤◌, ◌+◌, ◌-◌}
use Rattle.frame_fronts.specs.Fronts.{IsClear}
use Rattle.frame_fronts.proofs.clean.clear_groups.Given as goal

abbrev pub invariant-loop-done : goal.invariant-loop-done
invariant-loop-done l = record {
  within : l.done ≤ l.len;
  clear : IsClear l.bytes l.from (l.from + l.done);
}

abbrev pub decreases-loop-done : goal.decreases-loop-done
decreases-loop-done l = l.len - l.done
