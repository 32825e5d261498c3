-- The state stands for the history with the call, and the seat has made it.
use Rattle.std.proofs.Common.{refl}
use Rattle.pipe_turns.proofs.StateLemmas.{answers}
use Rattle.pipe_turns.proofs.TurnLemmas.{stands_with, makes}
use Rattle.pipe_turns.proofs.turns.cancel_read.Goals as goal

pub put-requires-clause-stands : goal.put-requires-clause-stands
put-requires-clause-stands c =
    stands_with c.args.cell.now c.args.seat.now c.take.new.seat c.in_ok-held.held _ _ 2 _ _ _ c.in_ok-held.ensures.taken c.requires.end.numbered (refl, tt) c.state_mut.ensures.state
    (answers _ c.cancel_read-wake.new.self _ _ c.cancel_read-wake.ensures) refl

pub returns-clause-made : goal.returns-clause-made
returns-clause-made c =
    makes c.args.cell.now c.args.seat.now c.take.new.seat _ c.in_ok-held.held _ _ 2 _ _ _ c.in_ok-held.ensures.taken c.requires.end.idle c.requires.end.numbered (refl, tt) c.state_mut.ensures.state
    (answers _ c.cancel_read-wake.new.self _ _ c.cancel_read-wake.ensures) refl c.put.ensures.put
