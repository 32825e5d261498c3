-- What a contract sees of an iterator over spans.
use Rattle.std.specs.Prelude.{ℕ, List}
use Rattle.span_seq.specs.Spans.{spans_of}
use Rattle.span_seq.specs.Sequence.{part}
use Rattle.span_seq.specs.declared.spans.Spans.{Ghosts}
use Rattle.span_seq.specs.declared.span_iter.SpanIter.{SpanIter}

-- The spans that are still to come.
abbrev pub spans_left : {C : Type 0} {g : Ghosts C} → SpanIter C g → List (List ℕ)
spans_left iter = spans_of (part iter.rest)
