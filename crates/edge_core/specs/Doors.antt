-- What a contract sees of doors: their counts, what is out, and the bytes behind them, where they tell those.
use Rattle.std.specs.Prelude.{ℕ, ◌≡◌, ◌+◌, ◌-◌, ◌<◌, Bool, true, false, List, [], ◌∷◌, ◌++◌, drop, slice_get, Option, Some, None, IsSome, IfSome, option_map, if◌then◌else◌}
use Rattle.std.specs.Str.{bytes_eq}
use Rattle.edge_core.specs.Device.{SourceState, SinkState, HasRisen}
use Rattle.edge_core.specs.declared.doors.DoorError.{DoorError}
use Rattle.edge_core.specs.declared.doors.DoorError.TheVariants.{Failed, OutOfMemory}

-- The bytes of a name.
pub record Named : Type 0 where
  pub name : List ℕ
  pub content : List ℕ

-- A device that was given back, as it was then.
pub data Device : Type 0 where
  an_inlet : SourceState → Device
  an_outlet : SinkState → Device

-- The bytes of each name, those of each connection that is still to be accepted, and the devices that were given back, each in their order.
pub record Told : Type 0 where
  pub named : List Named
  pub incoming : List (List ℕ)
  pub returned : List Device

-- How many openings failed, how many devices came back with a fault, whether there are connections to accept,
-- how many devices are out, and what the doors tell, or None where they don't.
pub record DoorsState : Type 0 where
  pub refusals : ℕ
  pub faults : ℕ
  pub is_listening : Bool
  pub inlets_out : ℕ
  pub outlets_out : ℕ
  pub told : Option Told

-- Doors that tell nothing: nothing was refused or given back, nothing is out, and there are no connections to accept.
abbrev pub shut : DoorsState
shut = record { refusals = 0; faults = 0; is_listening = false; inlets_out = 0; outlets_out = 0; told = None }

-- The bytes of a name, where it has some.
abbrev pub content_of : List ℕ → List Named → Option (List ℕ)
content_of name [] = None
content_of name (known ∷ others) = if bytes_eq known.name name then Some known.content else content_of name others

-- What is told once the first connection was accepted.
abbrev pub without_first : Told → Told
without_first told = record told { incoming = drop 1 told.incoming }

-- What is told once a device was given back.
abbrev pub with_returned : Device → Told → Told
with_returned device told = record told { returned = told.returned ++ device ∷ [] }

-- A source has these bytes, and there are such.
abbrev pub HasBytes : SourceState → Option (List ℕ) → Type 0
HasBytes source bytes = (source.left ≡ bytes) × IsSome bytes

-- The doors handed out the source of a name, where no call of it has failed.
pub record OpensInlet (before : DoorsState) (name : List ℕ) (source : SourceState) (after : DoorsState) : Type 0 where
  pub unfailed : source.faults ≡ 0
  pub named : IfSome before.told (λ told. HasBytes source (content_of name told.named))
  pub opened : after ≡ record before { inlets_out = before.inlets_out + 1 }

-- The doors handed out the source of the connection that came first, where no call of it has failed.
pub record Accepts (before : DoorsState) (source : SourceState) (after : DoorsState) : Type 0 where
  pub unfailed : source.faults ≡ 0
  pub first : IfSome before.told (λ told. HasBytes source (slice_get told.incoming 0))
  pub opened : after ≡ record before { inlets_out = before.inlets_out + 1; told = option_map without_first before.told }

-- The doors handed out the sink of a name, or of an address, to which nothing was written and where no call has failed.
pub record OpensOutlet (before : DoorsState) (name : List ℕ) (sink : SinkState) (after : DoorsState) : Type 0 where
  pub unfailed : sink.faults ≡ 0
  pub empty : IfSome before.told (λ _. sink.written ≡ Some [])
  pub named : IfSome before.told (λ _. sink.name ≡ Some name)
  pub opened : after ≡ record before { outlets_out = before.outlets_out + 1 }

-- There are now connections to accept.
abbrev pub Listens : DoorsState → DoorsState → Type 0
Listens before after = after ≡ record before { is_listening = true }

-- An opening was counted as refused, and nothing else changed.
pub record Refuses (before after : DoorsState) : Type 0 where
  pub risen : HasRisen before.refusals after.refusals
  pub kept : after ≡ record before { refusals = after.refusals }

-- An opening didn't succeed. For want of memory nothing is counted.
abbrev pub FailsWith : DoorError → DoorsState → DoorsState → Type 0
FailsWith Failed before after = Refuses before after
FailsWith OutOfMemory before after = after ≡ before

-- A device with this many faults was counted as faulty exactly where it had some.
pub record CountsFaults (before faults after : ℕ) : Type 0 where
  pub kept : faults ≡ 0 → after ≡ before
  pub risen : 0 < faults → HasRisen before after

-- A source was given back.
pub record TakesBackInlet (before : DoorsState) (source : SourceState) (after : DoorsState) : Type 0 where
  pub counted : CountsFaults before.faults source.faults after.faults
  pub returned : after ≡ record before {
    faults = after.faults;
    inlets_out = before.inlets_out - 1;
    told = option_map (with_returned (an_inlet source)) before.told;
  }

-- A sink was given back.
pub record TakesBackOutlet (before : DoorsState) (sink : SinkState) (after : DoorsState) : Type 0 where
  pub counted : CountsFaults before.faults sink.faults after.faults
  pub returned : after ≡ record before {
    faults = after.faults;
    outlets_out = before.outlets_out - 1;
    told = option_map (with_returned (an_outlet sink)) before.told;
  }
