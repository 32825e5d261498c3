-- In two parts.
use Rattle.std.proofs.Common.{arith}
use Rattle.frame_fronts.proofs.CleanLemmas.{clean_exactly}
use Rattle.frame_fronts.proofs.clean.is_clean.Goals as goal

pub returns : goal.returns
returns c = clean_exactly c.args.bytes.now c.args.from c.clear_groups-done.result c.args.len c.clear_lanes.result (omega (arith, c.requires)) c.clear_groups-done.ensures.within c.clear_groups-done.ensures.clear c.clear_lanes.ensures.clear c.clear_lanes.ensures.feed
