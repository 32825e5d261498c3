-- What a contract sees of a reader and a writer of std as devices.
use Rattle.std.specs.Prelude.{ℕ, List, Option, None}
use Rattle.edge_core.specs.Device.{SourceState, SinkState}
use Rattle.edge_core.specs.declared.std_edges.ReadEdge.{ReadEdge}
use Rattle.edge_core.specs.declared.std_edges.WriteEdge.{WriteEdge}

-- A reader tells the bytes that remain in it, where it knows them.
abbrev pub reader_state : {R : Type 0} → (R → Option (List ℕ)) → ReadEdge R → SourceState
reader_state remaining edge = record { left = remaining edge.inner; faults = edge.faults }

-- A writer tells its contents, where it knows them, and no name.
abbrev pub writer_state : {W : Type 0} → (W → Option (List ℕ)) → WriteEdge W → SinkState
writer_state contents edge = record { written = contents edge.inner; faults = edge.faults; name = None }
