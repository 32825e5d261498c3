-- The lines of the names that are left follow, and there is room for them.
use Rattle.std.proofs.Common.{◌≡◌, ◌≤◌, ◌+◌, ◌*◌, ◌++◌, length}
use Rattle.std.specs.List.{All}
use Rattle.std.specs.Prelude.{vec_capacity, vec_len}
use Rattle.relay_words.specs.Names.{IsName}
use Rattle.relay_words.specs.Words.{texts}
use Rattle.relay_model.specs.Answers.{answer_lines}
use Rattle.relay_top.proofs.name_lines.name_lines.Given as goal

abbrev pub invariant-loop-name : goal.invariant-loop-name
invariant-loop-name l = (l.lines.items ++ answer_lines (texts l.names) l.answers ≡ answer_lines (texts l.fn.names) l.fn.answers)
    × (length l.answers ≡ length l.names)
    × All IsName (texts l.names)
    × (vec_len l.lines + 281 * length l.names ≤ vec_capacity l.lines)

abbrev pub decreases-loop-name : goal.decreases-loop-name
decreases-loop-name l = length l.names
