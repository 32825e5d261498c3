-- The state stands for the history with the call, and the seat has made it.
use Rattle.std.proofs.Common.{refl}
use Rattle.pipe_turns.proofs.StateLemmas.{answers}
use Rattle.pipe_turns.proofs.TurnLemmas.{stands_with, makes}
use Rattle.pipe_turns.proofs.HoldLemmas.{may_advance}
use Rattle.pipe_turns.proofs.turns.advance.Goals as goal

pub put-requires-clause-stands : goal.put-requires-clause-stands
put-requires-clause-stands g c =
    stands_with c.args.cell.now c.args.seat.now c.take.new.seat c.in_ok-held.held _ _ 1 _ _ _ c.in_ok-held.ensures.taken c.requires.attends.end.numbered (refl, tt) c.state_mut.ensures.state
    (answers _ c.advance-wake.new.self _ _ c.advance-wake.ensures.answers) c.requires.entry

pub returns-clause-made : goal.returns-clause-made
returns-clause-made g c =
    makes c.args.cell.now c.args.seat.now c.take.new.seat _ c.in_ok-held.held _ _ 1 _ _ _ c.in_ok-held.ensures.taken c.requires.attends.end.idle c.requires.attends.end.numbered (refl, tt) c.state_mut.ensures.state
    (answers _ c.advance-wake.new.self _ _ c.advance-wake.ensures.answers) c.requires.entry c.put.ensures.put

pub advance-wake-requires-clause-lent : goal.advance-wake-requires-clause-lent
advance-wake-requires-clause-lent g c =
    may_advance c.args.seat.now c.take.new.seat c.in_ok-held.held _ c.in_ok-held.ensures.taken.takes c.state_mut.ensures.state c.args.c c.args.e c.requires.attends c.requires.lent
