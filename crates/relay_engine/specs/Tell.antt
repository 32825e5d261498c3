-- What is told, as a line.
use Rattle.std.specs.Prelude.{ℕ, List, Result, Ok, Err}
use Rattle.std.specs.List.{flat_map}
use denote.Bor.{Bor}
use Rattle.edge_core.specs.Device.{SinkState, Takes, TakesFront}
use Rattle.relay_model.specs.Lines.{door_line, line_of, memory_line, usage_line}
use Rattle.relay_engine.specs.declared.lines.Told.{Told}
use Rattle.relay_engine.specs.declared.lines.Told.TheVariants.{Usage, Relay, Memory, Door}

abbrev pub told_line : Told → List ℕ
told_line (Usage word) = usage_line word
told_line (Relay report) = line_of report.outcome report.taken report.written
told_line Memory = memory_line
told_line (Door word) = door_line word

-- A line was written, or a front of it where a write failed.
abbrev pub Writes : {T F : Type 0} → SinkState → List ℕ → Result T F → SinkState → Type 0
Writes before line (Ok done) after = Takes before line after
Writes before line (Err failed) after = (count : ℕ) × TakesFront before line count after

-- The pieces, one behind the other.
abbrev pub pieces_text : List (Bor (List ℕ)) → List ℕ
pieces_text pieces = flat_map (λ piece. piece.now) pieces
