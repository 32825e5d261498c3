-- What comes back is what the pipe was made of.
use Rattle.std.proofs.Common.{arith}
use Rattle.relay_threads.proofs.RentedLemmas.{ids_came_back, sizes_came_back}
use Rattle.relay_threads.proofs.pumping.settle.Goals as goal

pub give_all-requires-clause-out : goal.give_all-requires-clause-out
give_all-requires-clause-out g c = λ id. let same = ids_came_back 0 _ _ c.close-carried.ensures.all id in let out = c.requires.out id in omega (arith, same, out)

pub give_all-requires-clause-sizes : goal.give_all-requires-clause-sizes
give_all-requires-clause-sizes g c = sizes_came_back _ _ _ c.close-carried.ensures.all c.requires.sized

pub returns-clause-given_back : goal.returns-clause-given_back
returns-clause-given_back g c =
    let removes = c.give_all.ensures.out in record {
      out = λ id. let same = ids_came_back 0 _ _ c.close-carried.ensures.all id in let less = removes.out id in omega (arith, same, less);
      parts = removes.parts;
    }
