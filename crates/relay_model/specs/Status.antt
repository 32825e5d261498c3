-- The numbers of statuses.
use Rattle.std.specs.Prelude.{ℕ, Bool, true, false}
use Rattle.relay_model.specs.declared.status.Status.{Status}
use Rattle.relay_model.specs.declared.status.Status.TheVariants.{Clean, Usage, BadFrame, Truncated, ReadFault, WriteFault, OutOfMemory, TooLong, DoorFault}

abbrev pub number : Status → ℕ
number Clean = 0
number Usage = 1
number BadFrame = 2
number Truncated = 3
number ReadFault = 4
number WriteFault = 5
number OutOfMemory = 6
number TooLong = 7
number DoorFault = 8

abbrev pub is_clean : Status → Bool
is_clean Clean = true
is_clean status = false
