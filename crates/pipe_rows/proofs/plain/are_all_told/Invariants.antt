use Rattle.std.specs.Prelude.{IsNone}
use Rattle.pipe_rows.proofs.plain.are_all_told.Given as goal

abbrev pub invariant-loop-step : goal.invariant-loop-step
invariant-loop-step l = IsNone l.pipe.control.ended × IsNone l.pipe.control.gone × IsNone l.pipe.control.lent
