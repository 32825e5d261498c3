-- What is rented fits the relay's pipe, and what comes back is what was rented.
use Rattle.std.proofs.Common.{ℕ, subst, arith}
use Rattle.pipe_state.specs.Released.{names_of}
use Rattle.pipe_state.specs.Segments.{AreSized}
use Rattle.relay_threads.proofs.RentedLemmas.{own_ids, same_blocks, same_size, sized_by_name}
use Rattle.relay_threads.proofs.batching.relay_alone.Goals as goal

pub pump_over-answer-requires-clause-sized : goal.pump_over-answer-requires-clause-sized
pump_over-answer-requires-clause-sized g c = subst (λ (n : ℕ). AreSized n (names_of c.in-Ok.blocks.items)) c.requires.segment (sized_by_name _ _ c.in-Ok.ensures.sizes)

pub pump_over-answer-requires-clause-own : goal.pump_over-answer-requires-clause-own
pump_over-answer-requires-clause-own g c = own_ids _ c.in-Ok.ensures.distinct

pub give_all-requires-clause-out : goal.give_all-requires-clause-out
give_all-requires-clause-out g c = λ id. let same = same_blocks _ _ c.pump_over-answer.ensures.blocks id in let out = c.in-Ok.ensures.out.out id in omega (arith, same, out)

pub give_all-requires-clause-sizes : goal.give_all-requires-clause-sizes
give_all-requires-clause-sizes g c = same_size _ _ c.pump_over-answer.ensures.blocks _ c.in-Ok.ensures.sizes

pub returns-clause-out : goal.returns-clause-out
returns-clause-out g c =
    c.nothing_is_out.ensures _ _ _ _ c.in-Ok.ensures.out (record {
      out = λ id. let same = same_blocks _ _ c.pump_over-answer.ensures.blocks id in let less = c.give_all.ensures.out.out id in omega (arith, same, less);
      parts = c.give_all.ensures.out.parts;
    })
