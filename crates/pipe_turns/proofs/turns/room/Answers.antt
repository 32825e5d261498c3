-- A turn in which another segment is taken makes no call.
use Rattle.pipe_turns.proofs.HoldLemmas.{going}
use Rattle.pipe_turns.proofs.RoomLemmas.{finds_room}
use Rattle.pipe_turns.proofs.turns.room.Goals as goal

pub room-answer-requires-clause-going : goal.room-answer-requires-clause-going
room-answer-requires-clause-going c = going c.args.seat.now c.try_take.new.seat c.in_ok-held.held _ c.in_ok-held.ensures.taken c.state_mut.ensures.state c.requires.goes

pub returns-clause-found : goal.returns-clause-found
returns-clause-found c =
    let room = c.room-answer.ensures in
    finds_room c.args.cell.now.name.options c.args.hint c.room-answer.result c.args.seat.now c.try_take.new.seat c.put.new.seat c.in_ok-held.held _ _ c.args.part.now c.room-answer.new.writing
    c.in_ok-held.ensures.taken c.requires.goes.end.idle c.state_mut.ensures.state c.put.ensures.put c.requires.part.size room.granted room.home room.writing room.full room.unchanged
