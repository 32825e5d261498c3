-- No byte that was passed meets the test.
use Rattle.std.proofs.Common.{◌≡◌, ◌++◌, List, ℕ, length}
use Rattle.std.specs.List.{position_or_len}
use Rattle.span_seq.specs.Sequence.{bytes}
use Rattle.span_seq.proofs.sequence.Sequence.index_of.Given as goal

abbrev pub invariant-loop-rest : goal.invariant-loop-rest
invariant-loop-rest g l = record {
  before : List ℕ;
  parts : bytes l.self ≡ before ++ bytes l.rest;
  counted : l.passed ≡ length before;
  unmet : position_or_len (g.S.Search.meets l.search) before ≡ length before;
}

abbrev pub decreases-loop-rest : goal.decreases-loop-rest
decreases-loop-rest g l = length (bytes l.rest)
