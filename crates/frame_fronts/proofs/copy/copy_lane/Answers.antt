-- One load and one store.
use Rattle.frame_fronts.proofs.CopyLemmas.{lane_put}
use Rattle.frame_fronts.proofs.copy.copy_lane.Goals as goal

pub returns : goal.returns
returns c = lane_put c.args.room.now c.args.bytes.now c.args.at c.args.from c.requires.room c.requires.bytes
