-- What the end has heard by asking for room.
use Rattle.relay_engine.proofs.WriterEndLemmas.{granted, heard, room_granted}
use Rattle.relay_engine.proofs.shared_writer.WriterEndFillPipe.room.Goals as goal

pub returns-in-Ok-clause-at : goal.returns-in-Ok-clause-at
returns-in-Ok-clause-at c = granted _ _ c.args.self.now c.try_room.new.w (c.others_are_heard_first.ensures.won 0 _ _ c.writer_has_its_seat.ensures) c.in-Ok.ensures.granted

pub returns-in-Err-Full-clause-at : goal.returns-in-Err-Full-clause-at
returns-in-Err-Full-clause-at c =
    let finds = rw c.in-Err-Full.field-0-is at c.in-Err-Full.ensures.refused in
    let wins = finds.0.wins in
    heard c.args.self.now c.try_room.new.w (c.others_are_heard_first.ensures.won 0 _ _ c.writer_has_its_seat.ensures wins) wins.lawful.legal

pub returns-in-Ok-clause-granted : goal.returns-in-Ok-clause-granted
returns-in-Ok-clause-granted c = room_granted _ _ c.args.self.now c.try_room.new.w c.in-Ok.ensures.granted
