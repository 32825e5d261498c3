use Rattle.turn_cell.specs.Seat.{IsOf}
use Rattle.pipe_core.specs.History.{EndReader}
use Rattle.pipe_shared.specs.Waiting.{Tried}
use Rattle.pipe_shared.specs.Attempts.{TriesToEnd, waits_for_turn}
use Rattle.pipe_shared.proofs.pipe.Pipe.complete_reader.Given as goal

-- so far the completions were to be tried again
abbrev pub invariant-loop : goal.invariant-loop
invariant-loop g l = record {
  pipe : IsOf l.self l.end.seat;
  tried : Tried (TriesToEnd l.self.name.options (EndReader l.code)) waits_for_turn l.initial.end l.end;
}
