-- The frames of the bytes so far were passed over.
use Rattle.std.proofs.Common.{◌≡◌, ◌≤◌, ◌-◌, ℕ, List, length, drop, take}
use Rattle.std.specs.Prelude.{IsNone, position}
use Rattle.relay_engine.specs.Gathering.{Puts}
use Rattle.frame_model.specs.declared.framing.Framing.TheVariants.{Line}
use Rattle.frame_model.specs.Spelling.{is_line_feed}
use Rattle.span_seq.specs.Sequence.{bytes}
use Rattle.relay_engine.specs.Frames.{Passes, capped}
use Rattle.relay_engine.proofs.frames.write_frames.Given as goal

abbrev pub invariant-loop-front : goal.invariant-loop-front
invariant-loop-front g l = record {
  text : List ℕ;
  rest : bytes l.rest ≡ drop l.passed (bytes l.lent);
  within : l.known ≤ length (bytes l.rest);
  searched : l.job.input ≡ Line → IsNone (position is_line_feed (take l.known (bytes l.rest)));
  passes : Passes l.job (bytes l.lent) l.at_end l.passed l.frames text;
  puts : Puts l.fn.gathering (g.K.Sink.state l.fn.sink) text l.gathering (g.K.Sink.state l.sink);
  counted : l.written ≡ capped (length text);
}

abbrev pub decreases-loop-front : goal.decreases-loop-front
decreases-loop-front g l = length (bytes l.lent) - l.passed
