-- How one refusal is told as another, and which are no refusals to a call that waits.
use Rattle.std.specs.Prelude.{Bool, true, false}
use Rattle.pipe_turns.specs.declared.faults.TryFault.{TryFault}
use Rattle.pipe_turns.specs.declared.faults.TryFault.TheVariants as try
use Rattle.pipe_turns.specs.declared.faults.FlushFault.{FlushFault}
use Rattle.pipe_turns.specs.declared.faults.FlushFault.TheVariants as flush

-- the same refusal of a flush
abbrev pub flush_fault : TryFault → FlushFault
flush_fault (try.Busy word) = flush.Busy word
flush_fault (try.Worn entries) = flush.Worn entries

-- A call that waits tries again after all refusals but this one.
abbrev pub is_tried_again : FlushFault → Bool
is_tried_again (flush.Busy word) = true
is_tried_again (flush.Worn entries) = true
is_tried_again (flush.TooMuch total) = false
