-- The front of a lane.
use Rattle.std.proofs.Common.{arith}
use Rattle.frame_fronts.proofs.CopyLemmas.{short_copied}
use Rattle.frame_fronts.proofs.copy.copy_payload.Goals as goal

pub returns-then-len-le-LANE-clause-copied : goal.returns-then-len-le-LANE-clause-copied
returns-then-len-le-LANE-clause-copied c =
    short_copied c.args.room.now c.copy_lane.new.room c.args.bytes.now c.args.at c.args.from c.args.len (omega (arith, c.requires.room)) (omega (arith, c.requires.bytes)) (omega (arith, c.if-len-le-LANE.true)) c.copy_lane.ensures
