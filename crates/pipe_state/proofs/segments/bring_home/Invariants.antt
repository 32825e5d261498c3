use Rattle.std.proofs.Common.{◌≡◌, ◌≤◌, ◌+◌, ◌++◌, length}
use Rattle.std.specs.Vec.{vec_len, vec_capacity}
use Rattle.pipe_state.proofs.segments.bring_home.Given as goal

abbrev pub invariant-loop : goal.invariant-loop
invariant-loop l = record {
  moved : l.blocks.items ++ l.home.items ≡ l.fn.blocks.items ++ l.fn.home.items;
  room : vec_len l.blocks + length l.home.items ≤ l.home.capacity;
  keeps : vec_capacity l.blocks ≡ vec_capacity l.fn.blocks;
  capacity : l.home.capacity ≡ l.fn.home.capacity;
  left : l.counter + vec_len l.blocks ≡ l.end;
}
