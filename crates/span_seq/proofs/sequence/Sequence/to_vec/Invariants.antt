-- What was taken over stands before the bytes that are still to come.
use Rattle.std.proofs.Common.{◌≡◌, ◌++◌, length}
use Rattle.span_seq.specs.Sequence.{bytes}
use Rattle.span_seq.proofs.sequence.Sequence.to_vec.Given as goal

abbrev pub invariant-loop-first : goal.invariant-loop-first
invariant-loop-first g l = bytes l.self ≡ l.vec.items ++ bytes l.rest

abbrev pub decreases-loop-first : goal.decreases-loop-first
decreases-loop-first g l = length (bytes l.rest)
