-- What a contract sees of doors that open nothing.
use Rattle.std.specs.Prelude.{None}
use Rattle.edge_core.specs.Doors.{DoorsState}
use Rattle.edge_core.specs.declared.no_doors.NoDoors.{NoDoors}

-- They tell no bytes, for there are none behind them.
abbrev pub no_doors_state : NoDoors → DoorsState
no_doors_state doors = record {
  refusals = doors.refusals;
  faults = doors.faults;
  is_listening = doors.is_listening;
  inlets_out = doors.inlets_out;
  outlets_out = doors.outlets_out;
  told = None;
}
