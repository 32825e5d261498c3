-- Between two reads no lend stands.
use Rattle.std.proofs.Common.{IsNone}
use Rattle.stream_ends.specs.Reader.{lend_len}
use Rattle.example_lines.proofs.main.Given as goal

abbrev pub invariant-loop : goal.invariant-loop
invariant-loop l = IsNone (lend_len l.reader)
