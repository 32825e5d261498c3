-- Room that is asked for again leaves the draft, and none is asked for again where the hint is too large.
use Rattle.std.proofs.Common.{refl, ◌∙◌, max, Err}
use Rattle.pipe_shared.specs.declared.faults.RoomFault.TheVariants.{Busy, Full}
use Rattle.pipe_shared.specs.Waiting.{untried, tried}
use Rattle.pipe_shared.proofs.WaitingLemmas.{room_tried, granted_own}
use Rattle.pipe_shared.proofs.pipe.Pipe.room.Goals as goal

pub loop-init : goal.loop-init
loop-init g c = record { pipe = c.requires; tried = untried }

pub loop-preserved-in-Err-Full : goal.loop-preserved-in-Err-Full
loop-preserved-in-Err-Full g c =
    let h = c.in-Err-Full in
    record {
      pipe = c.try_room.ensures.pipe.0;
      tried = tried c.loop.w c.try_room.new.w (Err (Full h.field-0-0)) c.loop.invariant.tried (rw h.field-0-is at h.ensures.refused) refl;
    }

pub loop-preserved : goal.loop-preserved
loop-preserved g c =
    let h = c.in-Err-Busy in
    record {
      pipe = c.try_room.ensures.pipe.0;
      tried = tried c.loop.w c.try_room.new.w (Err (Busy h.field-0-0)) c.loop.invariant.tried (rw h.field-0-is at h.ensures.refused) refl;
    }

pub returns-in-Ok-clause-draft : goal.returns-in-Ok-clause-draft
returns-in-Ok-clause-draft g c = c.in-Ok.ensures.granted.draft ∙ (room_tried c.args.self.now.name.options (max c.args.hint 1) c.args.w.now c.loop.w c.loop.invariant.tried).0

pub returns-in-Ok-clause-own : goal.returns-in-Ok-clause-own
returns-in-Ok-clause-own g c =
    granted_own c.args.self.now.name.options (max c.args.hint 1) c.in-Ok.granted c.loop.w c.try_room.new.w c.in-Ok.ensures.granted
    ∙ (room_tried c.args.self.now.name.options (max c.args.hint 1) c.args.w.now c.loop.w c.loop.invariant.tried).1
