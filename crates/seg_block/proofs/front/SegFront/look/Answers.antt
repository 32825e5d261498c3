use Rattle.std.proofs.Common.{arith}
use Rattle.seg_block.proofs.Prefixes.{take-prefix}
use Rattle.seg_block.proofs.front.SegFront.look.Goals as goal

pub returns-clause-seen : goal.returns-clause-seen
returns-clause-seen c =
    let same = c.replace_with.ensures in
    take-prefix _ _ _ _ same.3 (omega (arith, same.1, c.replace_with.new.dest.fetched.1, c.len-self.ensures))
