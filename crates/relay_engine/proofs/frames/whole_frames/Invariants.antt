-- The frames so far are whole in what was written.
use Rattle.std.proofs.Common.{◌≡◌, ◌+◌, ◌<◌, ℕ, List, length, drop}
use Rattle.frame_grammar.specs.Job.{translation}
use Rattle.span_seq.specs.Sequence.{bytes}
use Rattle.relay_engine.specs.Frames.{Passes}
use Rattle.relay_engine.proofs.frames.whole_frames.Given as goal

abbrev pub invariant-loop-payload : goal.invariant-loop-payload
invariant-loop-payload g l = record {
  len : ℕ;
  text : List ℕ;
  rest : bytes l.rest ≡ drop len (bytes l.lent);
  passes : Passes l.job (bytes l.lent) l.at_end len l.frames text;
  left : l.written ≡ length text + l.left;
  short : l.left < length (translation l.job (bytes l.rest) l.at_end).text;
}

abbrev pub decreases-loop-payload : goal.decreases-loop-payload
decreases-loop-payload g l = length (bytes l.rest)
