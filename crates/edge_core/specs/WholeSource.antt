-- What a contract sees of a source that never fails: the bytes that it will still give.
use Rattle.std.specs.Prelude.{ℕ, List, Some}
use Rattle.edge_core.specs.Device.{SourceState}

-- It tells its bytes, and counts no fault.
abbrev pub whole_source_state : List ℕ → SourceState
whole_source_state left = record { left = Some left; faults = 0 }
