use Rattle.relay_top.proofs.OpeningLemmas.{second_refused}
use Rattle.relay_top.proofs.doors.open.Goals as goal

pub returns-in-Err-clause-refused : goal.returns-in-Err-clause-refused
returns-in-Err-clause-refused g c = second_refused _ _ _ _ _ _ c.in-Err.error c.in_ok-inlet.ensures.opened c.in-Err.ensures.refused c.give_inlet.ensures.returned
