use Rattle.std.proofs.Common.{◌≡◌, ◌≤◌, length}
use Rattle.std.specs.Vec.{vec_capacity}
use Rattle.seg_pool.proofs.RentLemmas.{IsRenting}
use Rattle.seg_pool.proofs.pool.Pool.rent_all.Given as goal

abbrev pub invariant-loop : goal.invariant-loop
invariant-loop g l = IsRenting l.self l.fn.pass.books l.blocks.items l.pass × (length l.blocks.items ≡ l.counter) × (l.fn.n ≤ vec_capacity l.blocks)
