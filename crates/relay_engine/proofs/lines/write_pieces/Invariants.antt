-- The pieces so far were written.
use Rattle.std.proofs.Common.{take}
use Rattle.edge_core.specs.Device.{Takes}
use Rattle.relay_engine.specs.Tell.{pieces_text}
use Rattle.relay_engine.proofs.lines.write_pieces.Given as goal

abbrev pub invariant-loop-piece : goal.invariant-loop-piece
invariant-loop-piece g l = Takes (g.E.Sink.state l.fn.faults) (pieces_text (take l.piece-index l.pieces)) (g.E.Sink.state l.faults)
