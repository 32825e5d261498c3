use Rattle.std.proofs.Common.{◌≡◌, ◌+◌, ◌++◌, length, drop, map}
use Rattle.std.specs.List.{AllByRecursion}
use Rattle.pipe_core.specs.Lends.{joined}
use Rattle.pipe_state.specs.Lying.{HaveOwnIds, runs_of}
use Rattle.pipe_state.specs.Segments.{AreFilled, SendsOnly}
use Rattle.pipe_state.specs.Sides.{unfinished_of}
use Rattle.pipe_state.specs.Writing.{IsLeft}
use Rattle.pipe_state.specs.Current.{drafts_in}
use Rattle.pipe_state.proofs.writing.finish_left.Given as goal

abbrev pub invariant-loop : goal.invariant-loop
invariant-loop l = record {
  pair : l.half.name ≡ l.segments.writer_name;
  first : l.half.value.segments ≡ map unfinished_of l.left.items ++ drop (length l.fn.left.items) l.fn.half.value.segments;
  half : l.half.value ≡ record l.fn.half.value { segments = l.half.value.segments };
  name : l.half.name ≡ l.fn.half.name;
  left_full : AllByRecursion (IsLeft l.fn.half.value.hint) l.left.items;
  filled : AreFilled l.fn.half.value.hint l.fn.segments.live → AreFilled l.fn.half.value.hint l.segments.live;
  own : HaveOwnIds l.segments.blocks;
  runs : joined (runs_of l.segments.live ++ drafts_in l.left.items) ≡ joined (runs_of l.fn.segments.live ++ drafts_in l.fn.left.items);
  apart : joined (runs_of l.segments.live) ≡ runs_of l.segments.live;
  kept : SendsOnly l.fn.segments l.segments;
  capacity : l.left.capacity ≡ l.fn.left.capacity;
  left : l.counter + length l.left.items ≡ l.end;
}
