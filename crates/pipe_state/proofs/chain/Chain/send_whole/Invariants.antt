use Rattle.std.proofs.Common.{◌≡◌, ◌≤◌, ◌+◌, ◌++◌, length}
use Rattle.pipe_state.specs.Fetched.{all_fetched}
use Rattle.pipe_state.specs.Released.{FinishedBefore, blocks_in, bytes_in, left_after, names_of, skip_after}
use Rattle.pipe_state.proofs.chain.Chain.send_whole.Given as goal

abbrev pub invariant-loop : goal.invariant-loop
invariant-loop l = record {
  within : l.self.skip + l.rest ≤ length (bytes_in (all_fetched l.self.links));
  order : FinishedBefore (all_fetched l.self.links);
  room : length l.home.items + length l.self.links ≤ l.home.capacity;
  links : left_after (l.self.skip + l.rest) (all_fetched l.self.links) ≡ left_after (l.fn.self.skip + l.fn.n) (all_fetched l.fn.self.links);
  skip : skip_after (l.self.skip + l.rest) (all_fetched l.self.links) ≡ skip_after (l.fn.self.skip + l.fn.n) (all_fetched l.fn.self.links);
  capacity : l.self.capacity ≡ l.fn.self.capacity;
  home : names_of l.home.items ++ blocks_in (all_fetched l.self.links) ≡ names_of l.fn.home.items ++ blocks_in (all_fetched l.fn.self.links);
  home_capacity : l.home.capacity ≡ l.fn.home.capacity;
  left : l.counter + length l.self.links ≡ l.end;
}
