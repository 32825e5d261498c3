use Rattle.seg_pool.specs.Words.{IsOf}
use Rattle.segment_rows.proofs.pools.splits_in_a_row.Given as goal

abbrev pub invariant-loop : goal.invariant-loop
invariant-loop l = IsOf l.pool l.pass
