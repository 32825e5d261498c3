-- What both sides of a relay over a pipe for two threads have done, once they have ended.
use Rattle.std.specs.Prelude.{◌≡◌}
use Rattle.edge_core.specs.Device.{SourceState, SinkState}
use Rattle.frame_grammar.specs.declared.job.Job.{Job}
use Rattle.relay_model.specs.declared.ending.FillEnd.{FillEnd}
use Rattle.relay_model.specs.declared.ending.Report.{Report}
use Rattle.relay_model.specs.Ending.{outcome_of}
use Rattle.pipe_turns.specs.Turns.{Seat}
use Rattle.relay_engine.specs.declared.drain_end.DrainEnd.{DrainEnd}
use Rattle.relay_engine.specs.Ending.{is_sink_fault, verdict_for}
use Rattle.relay_engine.specs.Sides.{HasFilled, HasDrained}

-- The writer's side has taken what the report tells, the reader's side has written what it tells, each by what its own seat has
-- seen, and the outcome is told of how each of them ended.
pub record HasPumped (job : Job) (report : Report) (writer reader : Seat) (source_before source_after : SourceState) (sink_before sink_after : SinkState) : Type 0 where
  pub filling : FillEnd
  pub draining : DrainEnd
  pub filled : HasFilled job.limit filling writer report.taken source_before source_after
  pub drained : HasDrained job draining reader report.frames report.written sink_before sink_after
  pub outcome : report.outcome ≡ outcome_of (is_sink_fault draining) filling (verdict_for draining)
