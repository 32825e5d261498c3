-- What a contract sees of a source in memory.
use Rattle.std.specs.Prelude.{ℕ, List, Some}
use Rattle.edge_core.specs.Device.{SourceState}
use Rattle.edge_core.specs.Plan.{PlanState}

-- The bytes that it will still give, and what its reads are to do.
pub record MemSourceState : Type 0 where
  pub left : List ℕ
  pub plan : PlanState

-- A source in memory tells its bytes.
abbrev pub mem_source_state : MemSourceState → SourceState
mem_source_state source = record { left = Some source.left; faults = source.plan.faults }
