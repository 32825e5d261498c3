use Rattle.std.proofs.Common.{◌≡◌, ◌≤◌, ◌+◌, ◌++◌, length}
use Rattle.std.specs.Vec.{vec_len, vec_capacity}
use Rattle.pipe_state.proofs.segments.Segments.into_blocks.Given as goal

abbrev pub invariant-loop : goal.invariant-loop
invariant-loop l = record {
  moved : l.list.items ++ l.home.items ≡ l.fn.list.items ++ l.initial.home.items;
  room : vec_len l.list + length l.home.items ≤ vec_capacity l.list;
  left : l.counter + length l.home.items ≡ l.end;
}
