use Rattle.std.proofs.Common.{◌≡◌, ◌≤◌, ◌+◌, length}
use Rattle.pipe_state.specs.Fetched.{AllFit, all_fetched, arrive}
use Rattle.pipe_state.proofs.chain.Chain.fetch.Given as goal

abbrev pub invariant-loop : goal.invariant-loop
invariant-loop l = record {
  fit : AllFit (all_fetched l.self.links) l.inbox.items;
  fetched : arrive (all_fetched l.self.links) l.inbox.items ≡ arrive (all_fetched l.fn.self.links) l.fn.inbox.items;
  room : length (arrive (all_fetched l.self.links) l.inbox.items) ≤ l.self.capacity;
  skip : l.self.skip ≡ l.fn.self.skip;
  capacity : l.self.capacity ≡ l.fn.self.capacity;
  keeps : l.inbox.capacity ≡ l.fn.inbox.capacity;
  left : l.counter + length l.inbox.items ≡ l.end;
}
