-- The state stands for the history with the completion, and the seat has made it.
use Rattle.std.proofs.Common.{refl}
use Rattle.pipe_turns.proofs.TurnLemmas.{stands_with, makes, too_much}
use Rattle.pipe_turns.proofs.StateLemmas.{all_last, answers}
use Rattle.pipe_turns.proofs.HoldLemmas.{going}
use Rattle.pipe_turns.proofs.turns.complete.Goals as goal

pub complete-requires-clause-going : goal.complete-requires-clause-going
complete-requires-clause-going g c = going c.args.seat.now c.take.new.seat c.in-Ok.held _ c.in-Ok.ensures.taken.takes c.state_mut.ensures.state c.requires.goes

pub put-requires-clause-stands : goal.put-requires-clause-stands
put-requires-clause-stands g c =
    stands_with c.args.cell.now c.args.seat.now c.take.new.seat c.in-Ok.held _ _ 0 _ _ _ c.in-Ok.ensures.taken c.requires.goes.end.numbered (all_last c.args.part.draft c.args.code) c.state_mut.ensures.state
    (answers _ c.complete.new.self _ _ c.in-Ok-complete.ensures.answers) c.requires.entries

pub returns-in-Ok-complete-clause-made : goal.returns-in-Ok-complete-clause-made
returns-in-Ok-complete-clause-made g c =
    makes c.args.cell.now c.args.seat.now c.take.new.seat _ c.in-Ok.held _ _ 0 _ _ _ c.in-Ok.ensures.taken c.requires.goes.end.idle c.requires.goes.end.numbered (all_last c.args.part.draft c.args.code) c.state_mut.ensures.state
    (answers _ c.complete.new.self _ _ c.in-Ok-complete.ensures.answers) c.requires.entries c.put.ensures.put

pub returns-in-Err-complete-clause-refused : goal.returns-in-Err-complete-clause-refused
returns-in-Err-complete-clause-refused g c =
    let h = c.in-Err-complete in let past = h.ensures.too_much.0 refl in
    too_much c.args.cell.now c.args.seat.now c.take.new.seat c.put-in-Err-complete.new.seat c.in-Ok.held _ _ _ c.in-Ok.ensures.taken c.requires.goes.end.idle c.state_mut.ensures.state c.put-in-Err-complete.ensures.put
    past.0 past.1 h.ensures.back.1
