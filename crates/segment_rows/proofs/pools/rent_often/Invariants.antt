use Rattle.std.proofs.Common.{[]}
use Rattle.seg_pool.specs.Words.{Adds, IsOf}
use Rattle.segment_rows.proofs.pools.rent_often.Given as goal

abbrev pub invariant-loop : goal.invariant-loop
invariant-loop g l = IsOf l.pool l.pass × Adds l.fn.pass.books [] l.pass.books
