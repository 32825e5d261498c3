-- Those that went by have their names.
use Rattle.std.proofs.Common.{◌≡◌, map}
use Rattle.edge_core.specs.Names.{named_with}
use Rattle.edge_core.proofs.names.Names.make.Given as goal

abbrev pub invariant-loop-devices : goal.invariant-loop-devices
invariant-loop-devices l = l.list.items ≡ map named_with l.yielded
