use Rattle.std.proofs.Common.{sym, ◌∙◌}
use Rattle.pipe_state.specs.Fetched.{all_fetched}
use Rattle.pipe_state.proofs.chain.Chain.fetch.Goals as goal
use Rattle.pipe_state.proofs.FetchedLemmas.{first_has_room}

pub take_in-requires-clause-room : goal.take_in-requires-clause-room
take_in-requires-clause-room c =
    first_has_room (all_fetched c.loop.self.links) c.loop.inbox.items c.in-Some.arrival c.loop.self.capacity (sym c.pop_front.ensures.value ∙ c.in-Some.is) c.loop.invariant.room
