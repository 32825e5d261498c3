-- What was copied stands before the bytes that are still to come.
use Rattle.std.proofs.Common.{◌≡◌, ◌++◌, List, ℕ, length, drop}
use Rattle.span_seq.specs.Sequence.{bytes}
use Rattle.span_seq.proofs.sequence.Sequence.copy_to.Given as goal

abbrev pub invariant-loop-first : goal.invariant-loop-first
invariant-loop-first g l = record {
  before : List ℕ;
  parts : bytes l.self ≡ before ++ bytes l.rest;
  counted : l.done ≡ length before;
  copied : l.out ≡ before ++ drop (length before) l.fn.out;
}

abbrev pub decreases-loop-first : goal.decreases-loop-first
decreases-loop-first g l = length (bytes l.rest)
