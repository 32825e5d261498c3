-- The first name whose status isn't clean is among those that are left.
use Rattle.std.proofs.Common.{◌≡◌, length}
use Rattle.relay_words.specs.Words.{texts}
use Rattle.relay_model.specs.Answers.{first_failed}
use Rattle.relay_top.proofs.name_lines.end_like_first.Given as goal

abbrev pub invariant-loop-name : goal.invariant-loop-name
invariant-loop-name g l = (first_failed (texts l.names) l.answers ≡ first_failed (texts l.fn.names) l.fn.answers)
    × (length l.answers ≡ length l.names)
    × (g.E.Sink.state l.faults ≡ g.E.Sink.state l.fn.faults)

abbrev pub decreases-loop-name : goal.decreases-loop-name
decreases-loop-name g l = length l.names
