use denote.Param.Send.{IsSend}
use Rattle.seg_block.proofs.Crosses.{known-keyless}
use Rattle.seg_block.specs.contracts.known.Known as known

pub send : IsSend known.the_row
send = record { owned = λ d vs. ((λ vss. (tt, tt)), known-keyless d.base d.names d.log d.first); leaving = λ k l vs. tt }
