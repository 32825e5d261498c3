-- What was compared is the same, so the rest decides.
use Rattle.std.proofs.Common.{◌≡◌, ◌↔◌, take, length}
use Rattle.span_seq.specs.Sequence.{bytes}
use Rattle.span_seq.proofs.sequence.Sequence.starts_with.Given as goal

abbrev pub invariant-loop-rest : goal.invariant-loop-rest
invariant-loop-rest g l = (take (length l.wanted) (bytes l.self) ≡ l.wanted) ↔ (take (length l.left) (bytes l.rest) ≡ l.left)

abbrev pub decreases-loop-rest : goal.decreases-loop-rest
decreases-loop-rest g l = length l.left
