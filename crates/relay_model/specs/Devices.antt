-- Devices that doors open for relays, and that come back.
use Rattle.std.specs.Prelude.{ℕ, ◌≡◌, ◌+◌, ◌-◌, List, [], ◌∷◌, ◌++◌, length, Option, Some, IfSome, option_map}
use Rattle.std.specs.List.{flat_map}
use Rattle.edge_core.specs.Device.{SourceState, SinkState}
use Rattle.edge_core.specs.Doors.{CountsFaults, Device, DoorsState, HasBytes, Told, an_inlet, an_outlet}

-- The source and the sink of a relay.
pub record Devices : Type 0 where
  pub inlet : SourceState
  pub outlet : SinkState

abbrev pub devices_of : SourceState → SinkState → Devices
devices_of inlet outlet = record { inlet = inlet; outlet = outlet }

abbrev pub both : Devices → List Device
both devices = an_inlet devices.inlet ∷ an_outlet devices.outlet ∷ []

-- No call of the source has failed, and where the doors tell it has these bytes of what they tell.
pub record IsFreshInlet (told : Option Told) (content : Told → Option (List ℕ)) (inlet : SourceState) : Type 0 where
  pub unfailed : inlet.faults ≡ 0
  pub bytes : IfSome told (λ t. HasBytes inlet (content t))

-- Nor of the sink, nothing was written to it, and where the doors tell it is the sink of this name.
pub record AreFresh (told : Option Told) (content : Told → Option (List ℕ)) (name : List ℕ) (devices : Devices) : Type 0 where
  pub inlet : IsFreshInlet told content devices.inlet
  pub outlet_unfailed : devices.outlet.faults ≡ 0
  pub empty : IfSome told (λ _. devices.outlet.written ≡ Some [])
  pub named : IfSome told (λ _. devices.outlet.name ≡ Some name)

abbrev pub faults_of : Device → ℕ
faults_of (an_inlet source) = source.faults
faults_of (an_outlet sink) = sink.faults

-- The faults of some devices, all in all.
abbrev pub faults_among : List Device → ℕ
faults_among [] = 0
faults_among (device ∷ devices) = faults_of device + faults_among devices

abbrev pub with_all : List Device → Told → Told
with_all devices told = record told { returned = told.returned ++ devices }

-- Doors to which these devices came back unused: nothing has changed but what came back.
abbrev pub with_unused : List Device → DoorsState → DoorsState
with_unused devices before = record before { told = option_map (with_all devices) before.told }

-- Doors of which both devices of so many relays more are out.
abbrev pub with_out : ℕ → DoorsState → DoorsState
with_out n before = record before { inlets_out = before.inlets_out + n; outlets_out = before.outlets_out + n }

-- The devices of some relays came back.
pub record HasComeBack (devices : List Devices) (before after : DoorsState) : Type 0 where
  pub counted : CountsFaults before.faults (faults_among (flat_map both devices)) after.faults
  pub returned : after ≡ record before {
    faults = after.faults;
    inlets_out = before.inlets_out - length devices;
    outlets_out = before.outlets_out - length devices;
    told = option_map (with_all (flat_map both devices)) before.told;
  }

-- The doors after relays: these devices came back in this order, those with faults were counted, and as many are out as before.
pub record HandsBack (devices : List Device) (before after : DoorsState) : Type 0 where
  pub counted : CountsFaults before.faults (faults_among devices) after.faults
  pub returned : after ≡ record before { faults = after.faults; told = option_map (with_all devices) before.told }
