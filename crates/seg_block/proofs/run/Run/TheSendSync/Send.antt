use denote.Param.Send.{IsSend}
use Rattle.seg_block.proofs.Crosses.{run-keyless}
use Rattle.seg_block.specs.contracts.run.Run as run

pub send : IsSend run.the_row
send = record { owned = λ d vs. ((λ vss. (tt, tt)), run-keyless d.ptr d.items); leaving = λ k l vs. tt }
