use denote.Param.Send.{IsSend}
use Rattle.seg_block.proofs.Crosses.{gate-keyless}
use Rattle.seg_block.specs.contracts.gate.Gate as gate

pub send : IsSend gate.the_row
send = record { owned = λ d vs. ((λ vss. (tt, (tt, tt))), gate-keyless d.base d.names d.role d.log); leaving = λ k l vs. tt }
