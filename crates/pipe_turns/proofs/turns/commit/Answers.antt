-- The state stands for the history with the commit, and the seat has made it.
use Rattle.std.proofs.Common.{refl}
use Rattle.pipe_turns.proofs.StateLemmas.{answers}
use Rattle.pipe_turns.proofs.TurnLemmas.{stands_with, makes}
use Rattle.pipe_turns.proofs.HoldLemmas.{going, refuses_flush}
use Rattle.pipe_turns.proofs.turns.commit.Goals as goal

pub returns-in_err-held-clause-refused : goal.returns-in_err-held-clause-refused
returns-in_err-held-clause-refused g c = refuses_flush _ c.in_err-held.field-0.0 c.args.seat.now c.take.new.seat c.from_residual.result c.from_residual.ensures.1 c.in_err-held.ensures.refused

pub commit-requires-clause-going : goal.commit-requires-clause-going
commit-requires-clause-going g c = going c.args.seat.now c.take.new.seat c.in_ok-held.held _ c.in_ok-held.ensures.taken.takes c.state_mut.ensures.state c.requires.goes

pub put-requires-clause-stands : goal.put-requires-clause-stands
put-requires-clause-stands g c =
    stands_with c.args.cell.now c.args.seat.now c.take.new.seat c.in_ok-held.held _ _ 0 _ _ _ c.in_ok-held.ensures.taken c.requires.goes.end.numbered (refl, tt) c.state_mut.ensures.state
    (answers _ c.commit.new.self _ _ c.in-Ok.ensures.answers) c.requires.entry

pub returns-in-Ok-clause-made : goal.returns-in-Ok-clause-made
returns-in-Ok-clause-made g c =
    makes c.args.cell.now c.args.seat.now c.take.new.seat _ c.in_ok-held.held _ _ 0 _ _ _ c.in_ok-held.ensures.taken c.requires.goes.end.idle c.requires.goes.end.numbered (refl, tt) c.state_mut.ensures.state
    (answers _ c.commit.new.self _ _ c.in-Ok.ensures.answers) c.requires.entry c.put.ensures.put
