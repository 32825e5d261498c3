-- What the steps of each side have come to so far.
use Rattle.std.specs.Prelude.{ℕ, ◌≡◌, ◌≤◌, false, List, length, Option, Some, None}
use Rattle.edge_core.specs.Device.{SourceState, SinkState, Gives}
use Rattle.frame_grammar.specs.declared.job.Job.{Job}
use Rattle.relay_model.specs.declared.ending.FillEnd.{FillEnd}
use Rattle.relay_model.specs.Run.{IsTaken}
use Rattle.turn_cell.specs.Seat.{CellState, IsIdle}
use Rattle.pipe_turns.specs.Name.{Name}
use Rattle.relay_engine.specs.Draining.{GainsIf}
use Rattle.relay_engine.specs.PipeDrainer.{DrainerState, IsDraining, owes_end}
use Rattle.relay_engine.specs.PipeFiller.{FillerState, all_of}

-- These bytes left a source, at most so many, while more may be taken; or where the taking has ended, for this reason.
abbrev pub TakenSoFar : ℕ → List ℕ → Option FillEnd → SourceState → SourceState → Type 0
TakenSoFar limit bytes None before after = Gives before bytes after × (length bytes ≤ limit)
TakenSoFar limit bytes (Some end) before after = IsTaken limit bytes end before after

-- A filler on its way: none of its steps was the last, and its source was so before the first one.
pub record IsFilling (pipe : CellState Name) (limit : ℕ) (start : SourceState) (f : FillerState) (now : SourceState) : Type 0 where
  pub idle : IsIdle pipe f.end.seat
  pub going : f.done ≡ false
  pub limited : f.limit ≡ limit
  pub so_far : TakenSoFar f.limit (all_of f.end) f.ending start now

-- This text came to a sink, by steps of which none was the last.
pub record WroteSoFar (job : Job) (before : SinkState) (d : DrainerState) (now : SinkState) : Type 0 where
  pub text : List ℕ
  pub draining : IsDraining d text
  pub gained : GainsIf (owes_end d.ending d.draining.owed) before text now
  pub job_is : d.draining.drained.job ≡ job
