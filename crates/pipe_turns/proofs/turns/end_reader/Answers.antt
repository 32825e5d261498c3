-- The state stands for the history with the call, and the seat has made it.
use Rattle.std.proofs.Common.{refl}
use Rattle.pipe_turns.proofs.StateLemmas.{answers}
use Rattle.pipe_turns.proofs.TurnLemmas.{stands_with, makes}
use Rattle.pipe_turns.proofs.HoldLemmas.{attended}
use Rattle.pipe_turns.proofs.turns.end_reader.Goals as goal

pub put-requires-clause-stands : goal.put-requires-clause-stands
put-requires-clause-stands g c =
    stands_with c.args.cell.now c.args.seat.now c.take.new.seat c.in-Ok.held _ _ 1 _ _ _ c.in-Ok.ensures.taken c.requires.attends.end.numbered (refl, tt) c.state_mut.ensures.state
    (answers _ c.end_reader-wake.new.self _ _ c.end_reader-wake.ensures) c.requires.entry

pub returns-clause-made : goal.returns-clause-made
returns-clause-made g c =
    makes c.args.cell.now c.args.seat.now c.take.new.seat _ c.in-Ok.held _ _ 1 _ _ _ c.in-Ok.ensures.taken c.requires.attends.end.idle c.requires.attends.end.numbered (refl, tt) c.state_mut.ensures.state
    (answers _ c.end_reader-wake.new.self _ _ c.end_reader-wake.ensures) c.requires.entry c.put.ensures.put

pub end_reader-wake-requires-clause-attended : goal.end_reader-wake-requires-clause-attended
end_reader-wake-requires-clause-attended g c =
    attended c.args.seat.now c.take.new.seat c.in-Ok.held _ c.in-Ok.ensures.taken.takes c.state_mut.ensures.state c.requires.attends
