-- The sinks among the devices that came back.
use Rattle.std.proofs.Common.{◌≡◌, List, [], ◌∷◌, ◌++◌, map, refl, ap}
use Rattle.std.proofs.lemmas.List.{append-nil, map-append}
use Rattle.std.specs.declared.snapshot.Snapshot.{Snapshot}
use Rattle.edge_core.specs.Doors.{Device, an_inlet, an_outlet}
use Rattle.edge_core.specs.MemSink.{MemSinkState, mem_sink_state}
use Rattle.edge_core.specs.MemSource.{MemSourceState}
use Rattle.edge_core.specs.Returns.{device, sinks_among}
use Rattle.edge_core.specs.declared.returns.Returned.{Returned}
use Rattle.edge_core.specs.declared.returns.Returned.TheVariants.{Inlet, Outlet}

pub sinks_among-append : (xs ys : List Device) → sinks_among (xs ++ ys) ≡ sinks_among xs ++ sinks_among ys
sinks_among-append [] ys = refl
sinks_among-append (an_inlet source ∷ xs) ys = sinks_among-append xs ys
sinks_among-append (an_outlet sink ∷ xs) ys = ap (λ zs. sink ∷ zs) (sinks_among-append xs ys)

pub sinks_among-with_inlet : (returned after : List Returned) (outlets : List MemSinkState) (source : Snapshot MemSourceState)
    → after ≡ returned ++ Inlet source ∷ [] → sinks_among (map device returned) ≡ map mem_sink_state outlets
    → sinks_among (map device after) ≡ map mem_sink_state outlets
sinks_among-with_inlet returned after outlets source is before =
    rw (is, map-append device returned (Inlet source ∷ []), sinks_among-append (map device returned) (device (Inlet source) ∷ []), before) (append-nil (map mem_sink_state outlets))

pub sinks_among-with_outlet : (returned after : List Returned) (outlets outlets' : List MemSinkState) (sink : Snapshot MemSinkState) (outlet : MemSinkState)
    → sink.value ≡ outlet → after ≡ returned ++ Outlet sink ∷ [] → outlets' ≡ outlets ++ outlet ∷ [] → sinks_among (map device returned) ≡ map mem_sink_state outlets
    → sinks_among (map device after) ≡ map mem_sink_state outlets'
sinks_among-with_outlet returned after outlets outlets' sink outlet seen is are before =
    rw (is, are, ← seen, map-append device returned (Outlet sink ∷ []), map-append mem_sink_state outlets (sink.value ∷ []), sinks_among-append (map device returned) (device (Outlet sink) ∷ []), before) refl
