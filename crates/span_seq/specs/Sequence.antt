-- What a contract sees of a sequence.
use Rattle.std.specs.Prelude.{ℕ, ◌+◌, List}
use Rattle.span_seq.specs.Spans.{Part, bytes_of}
use Rattle.span_seq.specs.declared.spans.Spans.{Ghosts}
use Rattle.span_seq.specs.declared.sequence.Sequence.{Sequence}

-- Which part of its spans a sequence is.
abbrev pub part : {C : Type 0} {g : Ghosts C} → Sequence C g → Part
part {C} {g} s = record { spans = g.spans s.spans.now; from = s.from; to = s.from + s.len }

-- Its bytes.
abbrev pub bytes : {C : Type 0} {g : Ghosts C} → Sequence C g → List ℕ
bytes s = bytes_of (part s)
