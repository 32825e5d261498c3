-- The length of the frames so far.
use Rattle.std.proofs.Common.{◌≡◌, ◌≤◌, ◌*◌, length}
use Rattle.frame_model.specs.Spelling.{text}
use Rattle.gen_core.specs.Generator.{payloads}
use Rattle.gen_core.proofs.source.gen_len.Given as goal

abbrev pub invariant-loop-number : goal.invariant-loop-number
invariant-loop-number l = (l.total ≡ length (text l.framing (payloads l.seed 0 l.number))) × (l.total ≤ 99 * l.number)
