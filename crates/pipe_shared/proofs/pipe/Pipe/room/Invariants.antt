use Rattle.std.specs.Prelude.{max}
use Rattle.turn_cell.specs.Seat.{IsOf}
use Rattle.pipe_shared.specs.Waiting.{Tried}
use Rattle.pipe_shared.specs.Attempts.{TriesRoom, waits_for_room}
use Rattle.pipe_shared.proofs.pipe.Pipe.room.Given as goal

-- so far the attempts were to be made again
abbrev pub invariant-loop : goal.invariant-loop
invariant-loop g l = record {
  pipe : IsOf l.self l.w.seat;
  tried : Tried (TriesRoom l.self.name.options (max l.hint 1)) waits_for_room l.fn.w l.w;
}
