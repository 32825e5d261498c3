use Rattle.std.proofs.Common.{[]}
use Rattle.segment_rows.proofs.pools.rent_by_two.Goals as goal

pub returns-clause-out : goal.returns-clause-out
returns-clause-out g c =
    c.split_and_merged.ensures c.args.pass.books c.split.new.pass.books c.in-Ok.other.books c.join-one.result.0.books c.join-one.result.1.books c.merge.new.into.books [] []
    c.in-Ok.ensures.split.1 c.in-Ok.ensures.split.2 c.join-one.ensures.first.1 c.join-one.ensures.second.1 c.merge.ensures.merged
