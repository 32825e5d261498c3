-- How a relay ends, from how each side did.
use Rattle.std.specs.Prelude.{Bool, true, false}
use Rattle.frame_model.specs.Cut.{Verdict, Open, End, Rest, Bad}
use Rattle.relay_engine.specs.declared.drain_end.DrainEnd.{DrainEnd}
use Rattle.relay_engine.specs.declared.drain_end.DrainEnd.TheVariants as ends

-- a write or a flush failed
abbrev pub is_sink_fault : DrainEnd → Bool
is_sink_fault ends.SinkFault = true
is_sink_fault end = false

-- the verdict for which a drainer ends. Where a write failed, none is told.
abbrev pub verdict_for : DrainEnd → Verdict
verdict_for ends.Clean = End
verdict_for (ends.Rest place) = Rest place
verdict_for (ends.Bad place kind) = Bad place kind
verdict_for end = Open
