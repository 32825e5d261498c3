use Rattle.relay_model.proofs.DevicesLemmas.{came_back}
use Rattle.relay_threads.proofs.returning.give_back.Goals as goal

pub returns : goal.returns
returns g c = came_back _ _ _ _ _ c.give_inlet.ensures.returned c.give_outlet.ensures.returned
