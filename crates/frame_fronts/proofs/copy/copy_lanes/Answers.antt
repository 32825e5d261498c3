-- Lane by lane.
use Rattle.std.proofs.Common.{arith, take, ◌++◌, drop, ap, length, ◌+◌}
use Rattle.std.proofs.lemmas.List.{length-append, length-drop, length-take}
use Rattle.frame_fronts.proofs.CopyLemmas.{front_copied, lane_copied}
use Rattle.frame_fronts.proofs.copy.copy_lanes.Goals as goal

pub loop-done-preserved : goal.loop-done-preserved
loop-done-preserved c =
    let so_far = c.loop-done.invariant in
    let at = c.args.at + c.loop-done.done in
    let lane = take 16 (drop (c.args.from + c.loop-done.done) c.args.bytes.now) in
    let rest = drop (at + 16) c.loop-done.room in
    record {
      few = omega arith;
      kept = omega (arith, ap length c.copy_lane.ensures, length-append (take at c.loop-done.room) (lane ++ rest), length-append lane rest, length-take at c.loop-done.room, length-drop (at + 16) c.loop-done.room, length-take 16 (drop (c.args.from + c.loop-done.done) c.args.bytes.now), length-drop (c.args.from + c.loop-done.done) c.args.bytes.now);
      copied = lane_copied c.loop-done.room c.copy_lane.new.room (take c.args.at c.args.room.now) c.args.bytes.now c.args.at c.args.from c.loop-done.done (omega arith) (omega arith) c.copy_lane.ensures so_far.copied;
    }

pub returns-clause-copied : goal.returns-clause-copied
returns-clause-copied c =
    front_copied c.loop-done.room (take c.args.at c.args.room.now) _ c.args.at c.args.len c.loop-done.done (omega (arith, length-take c.args.at c.args.room.now)) (omega arith) c.loop-done.invariant.copied
