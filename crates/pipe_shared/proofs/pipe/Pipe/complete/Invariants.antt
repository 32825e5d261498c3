use Rattle.turn_cell.specs.Seat.{IsOf}
use Rattle.pipe_shared.specs.Waiting.{Tried}
use Rattle.pipe_shared.specs.Attempts.{TriesCompletion, waits_to_complete}
use Rattle.pipe_shared.proofs.pipe.Pipe.complete.Given as goal

-- so far the completions were to be tried again
abbrev pub invariant-loop : goal.invariant-loop
invariant-loop g l = record {
  pipe : IsOf l.self l.end.seat;
  tried : Tried (TriesCompletion l.self.name.options l.code) waits_to_complete l.initial.end l.end;
}
