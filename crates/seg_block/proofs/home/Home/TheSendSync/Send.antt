use denote.Param.Send.{IsSend}
use Rattle.seg_block.proofs.Crosses.{home-keyless}
use Rattle.seg_block.specs.contracts.home.Home as home

pub send : IsSend home.the_row
send = record { owned = λ d vs. ((λ vss. (tt, (tt, tt))), home-keyless d.base d.size); leaving = λ k l vs. tt }
