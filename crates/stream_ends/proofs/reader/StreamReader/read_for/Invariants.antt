-- So far the source was read where that was due, and the lend and the count of faults are as they were.
use Rattle.std.proofs.Common.{◌≡◌, ℕ, List, Option, IsNone}
use Rattle.pipe_core.specs.History.{Call}
use Rattle.stream_ends.specs.Reader.{Stands, lend_len, room_for}
use Rattle.stream_ends.specs.Reads.{HasFilled, reads_left}
use Rattle.stream_ends.proofs.reader.StreamReader.read_for.Given as goal

abbrev pub invariant-loop-self : goal.invariant-loop-self
invariant-loop-self g l = record {
  lend : IsNone (lend_len l.self);
  capacity : room_for l.self ≡ room_for l.initial.self;
  faults : l.self.source.faults ≡ l.initial.self.source.faults;
  fills : (first : Option (List ℕ)) (h : List Call) → Stands first l.initial.self h → HasFilled first l.n l.initial.self l.self h;
}

abbrev pub decreases-loop-self : goal.decreases-loop-self
decreases-loop-self g l = reads_left l.self.pipe
