use Rattle.relay_engine.proofs.TellLemmas.{broken_line}
use Rattle.relay_engine.proofs.lines.write_pieces.Goals as goal

pub returns-in_default : goal.returns-in_default
returns-in_default g c = broken_line _ _ _ c.args.pieces.now c.loop-piece.piece-index _ _ c.loop-piece-test.true c.loop-piece.invariant c.in_default.ensures.front
