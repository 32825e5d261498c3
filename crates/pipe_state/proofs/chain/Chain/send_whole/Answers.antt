use Rattle.std.proofs.Common.{◌≡◌, ◌+◌, ◌-◌, ◌++◌, List, length, take, drop, ap, sym, subst, ◌∙◌, arith, append_assoc}
use Rattle.pipe_state.specs.Fetched.{Fetched, all_fetched}
use Rattle.pipe_state.specs.Chains.{first_len}
use Rattle.pipe_state.specs.Released.{FinishedBefore, blocks_in, bytes_in, left_after, names_of, skip_after}
use Rattle.pipe_state.proofs.chain.Chain.send_whole.Goals as goal
use Rattle.pipe_state.proofs.ReleaseLemmas.{goes, fetched_behind, blocks_apart, one_home, one_fewer}

pub loop-preserved : goal.loop-preserved
loop-preserved c =
    let v = c.loop.invariant in let first = c.in-Some.ensures.some in
    let segments : List Fetched = all_fetched c.loop.self.links in
    let g = goes (c.loop.self.skip + c.loop.rest) segments first.0 in
    let len = first.1 in let skip = c.send_first.ensures.skip in
    let number : c.send_first.new.self.skip + (c.loop.rest - c.in-Some.len) ≡ c.loop.self.skip + c.loop.rest - first_len segments = omega (arith, len, skip) in
    let behind : all_fetched c.send_first.new.self.links ≡ drop 1 segments = ap all_fetched c.send_first.ensures.links ∙ fetched_behind c.loop.self.links in
    let some = g.some in
    let fewer = one_fewer c.loop.self.links some in let links = ap length c.send_first.ensures.links in
    let more = one_home c.loop.home.items c.send_first.new.home.items segments some c.send_first.ensures.home in
    let room = v.room in let left = v.left in let home_capacity = c.send_first.ensures.home_capacity in
    record {
      within = (let w = g.within v.within in let b = ap (λ s. length (bytes_in s)) behind in omega arith);
      order = subst FinishedBefore (sym behind) (g.order v.order);
      room = omega arith;
      links = ap (λ k. left_after k (all_fetched c.send_first.new.self.links)) number ∙ ap (left_after (c.loop.self.skip + c.loop.rest - first_len segments)) behind ∙ sym g.left ∙ v.links;
      skip = ap (λ k. skip_after k (all_fetched c.send_first.new.self.links)) number ∙ ap (skip_after (c.loop.self.skip + c.loop.rest - first_len segments)) behind ∙ sym g.skip ∙ v.skip;
      capacity = c.send_first.ensures.capacity ∙ v.capacity;
      home = ap (λ l. l ++ blocks_in (all_fetched c.send_first.new.self.links)) c.send_first.ensures.home
          ∙ append_assoc (names_of c.loop.home.items) (take 1 (blocks_in segments)) (blocks_in (all_fetched c.send_first.new.self.links))
          ∙ ap (λ l. names_of c.loop.home.items ++ (take 1 (blocks_in segments) ++ blocks_in l)) behind
          ∙ ap (λ l. names_of c.loop.home.items ++ l) (blocks_apart segments) ∙ v.home;
      home_capacity = home_capacity ∙ v.home_capacity;
      left = omega arith;
    }
