-- No name that went by is the one that is looked for.
use Rattle.std.proofs.Common.{◌≡◌, ◌+◌, length}
use Rattle.edge_core.specs.Names.{place_from}
use Rattle.edge_core.proofs.names.Names.place_of.Given as goal

abbrev pub invariant-loop-first : goal.invariant-loop-first
invariant-loop-first l = (l.at + length l.rest ≡ length l.self) × (place_from 0 l.name l.self ≡ place_from l.at l.name l.rest)

abbrev pub decreases-loop-first : goal.decreases-loop-first
decreases-loop-first l = length l.rest
