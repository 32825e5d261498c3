use denote.Param.Send.{IsSync, struct_sync}
use denote.Struct.Owning.{shape}
use Rattle.seg_block.proofs.Crosses.{known-keyless}
use Rattle.seg_block.specs.contracts.known.Known as known

pub sync : IsSync known.the_row
sync = record { shared = λ d b o κ. ((struct_sync (shape known.the_type) tt).shared tt b o κ, known-keyless d.base d.names d.log d.first) }
