-- The lines so far.
use Rattle.std.proofs.Common.{◌≤◌, ◌-◌, ℕ, List, length}
use Rattle.frame_model.specs.declared.framing.Framing.TheVariants.{Line}
use Rattle.frame_fronts.specs.Fronts.{IsFront}
use Rattle.frame_fronts.proofs.lines.whole_lines.Given as goal

abbrev pub invariant-loop-more : goal.invariant-loop-more
invariant-loop-more l = record {
  payloads : List (List ℕ);
  front : IsFront Line Line l.max l.bytes l.len l.frames payloads;
  few : l.frames ≤ l.len;
  within : l.len ≤ length l.bytes;
}

abbrev pub decreases-loop-more : goal.decreases-loop-more
decreases-loop-more l = length l.bytes - l.len
