-- What a contract sees of the names of doors in memory.
use Rattle.std.specs.Prelude.{ℕ, ◌≡◌, ◌+◌, List, [], ◌∷◌, Option, Some, None, IfSome, option_and_then, string_bytes, String, if◌then◌else◌}
use Rattle.std.specs.declared.alloc.Global.{Global}
use Rattle.std.specs.Str.{bytes_eq}
use Rattle.edge_core.specs.MemSource.{MemSourceState}
use Rattle.edge_core.specs.MemSink.{MemSinkState}

-- A name, the bytes that its source had at first, and which of its devices are still to be taken.
pub record NamedState : Type 0 where
  pub name : List ℕ
  pub content : List ℕ
  pub inlet : Option MemSourceState
  pub outlet : Option MemSinkState

-- A name with its two devices.
abbrev pub named_with : (String Global × MemSourceState × MemSinkState) → NamedState
named_with devices = record {
  name = string_bytes devices.0;
  content = devices.1.left;
  inlet = Some devices.1;
  outlet = Some devices.2;
}

-- The first of that name.
abbrev pub named : List ℕ → List NamedState → Option NamedState
named name [] = None
named name (known ∷ others) = if bytes_eq known.name name then Some known else named name others

-- The index of the first of that name, where the first of these has the index `at`.
abbrev pub place_from : ℕ → List ℕ → List NamedState → Option ℕ
place_from at name [] = None
place_from at name (known ∷ others) = if bytes_eq known.name name then Some at else place_from (at + 1) name others

-- The names, where the first of that name was changed.
abbrev pub with_changed : (NamedState → NamedState) → List ℕ → List NamedState → List NamedState
with_changed change name [] = []
with_changed change name (known ∷ others) = if bytes_eq known.name name then change known ∷ others else known ∷ with_changed change name others

-- The source of a name, where it is still to be taken.
abbrev pub inlet_of : List ℕ → List NamedState → Option MemSourceState
inlet_of name names = option_and_then (λ known. known.inlet) (named name names)

-- The sink of a name, where it is still to be taken.
abbrev pub outlet_of : List ℕ → List NamedState → Option MemSinkState
outlet_of name names = option_and_then (λ known. known.outlet) (named name names)

abbrev pub inlet_taken : NamedState → NamedState
inlet_taken known = record known { inlet = None }

abbrev pub outlet_taken : NamedState → NamedState
outlet_taken known = record known { outlet = None }

-- The names once the source of one of them was taken.
abbrev pub without_inlet : List ℕ → List NamedState → List NamedState
without_inlet = with_changed inlet_taken

-- The names once the sink of one of them was taken.
abbrev pub without_outlet : List ℕ → List NamedState → List NamedState
without_outlet = with_changed outlet_taken

-- No call of it has failed.
abbrev pub IsFreshSource : MemSourceState → Type 0
IsFreshSource source = source.plan.faults ≡ 0

-- Nothing was written to it, and no call of it has failed.
abbrev pub IsFreshSink : MemSinkState → Type 0
IsFreshSink sink = (sink.written ≡ []) × (sink.plan.faults ≡ 0)

-- What is still to be taken is as it was at first.
abbrev pub IsUntouched : NamedState → Type 0
IsUntouched known = IfSome known.inlet (λ source. (source.left ≡ known.content) × IsFreshSource source) × IfSome known.outlet IsFreshSink
