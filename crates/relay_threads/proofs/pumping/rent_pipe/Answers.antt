-- What is rented fits a pipe, and what a pipe refuses is what was rented.
use Rattle.std.proofs.Common.{ℕ, List, ap, sym, subst, arith, ◌∙◌}
use Rattle.seg_block.specs.Numbered.{times}
use Rattle.seg_pool.specs.Words.{Adds, Removes}
use Rattle.pipe_state.specs.Released.{BlockName, names_of}
use Rattle.pipe_state.specs.Segments.{AreSized}
use Rattle.relay_threads.specs.Rented.{ids_named}
use Rattle.relay_threads.proofs.RentedLemmas.{ids_by_name, ids_of_same, own_ids, sized_by_name, sizes_of_same}
use Rattle.relay_threads.proofs.pumping.rent_pipe.Goals as goal

pub make-requires-clause-sized : goal.make-requires-clause-sized
make-requires-clause-sized g c =
    let size = ap (λ o. o.segment) c.options_of-options.ensures.options ∙ sym c.requires.segment in
    subst (λ (n : ℕ). AreSized n (names_of c.in_ok-blocks.blocks.items)) (sym size) (sized_by_name _ _ c.in_ok-blocks.ensures.sizes)

pub make-requires-clause-own : goal.make-requires-clause-own
make-requires-clause-own g c = own_ids _ c.in_ok-blocks.ensures.distinct

pub returns-in-Ok-clause-rented : goal.returns-in-Ok-clause-rented
returns-in-Ok-clause-rented g c =
    subst (λ (ids : List ℕ). Adds c.args.pass.now.books ids c.rent_all.new.pass.books) (sym (ap (λ (names : List BlockName). ids_named names) c.in-Ok.ensures.blocks ∙ ids_by_name _)) c.in_ok-blocks.ensures.out

pub returns-in-Ok-clause-sized : goal.returns-in-Ok-clause-sized
returns-in-Ok-clause-sized g c =
    subst (λ (names : List BlockName). AreSized c.args.pool.now.segment names) (sym c.in-Ok.ensures.blocks) (sized_by_name _ _ c.in_ok-blocks.ensures.sizes)

pub give_all-requires-clause-out : goal.give_all-requires-clause-out
give_all-requires-clause-out g c = λ id. let same = ap (λ (ids : List ℕ). times id ids) (ids_of_same _ _ c.in-Err.ensures.back) in let out = c.in_ok-blocks.ensures.out.out id in omega (arith, same, out)

pub give_all-requires-clause-sizes : goal.give_all-requires-clause-sizes
give_all-requires-clause-sizes g c = sizes_of_same _ _ _ c.in-Err.ensures.back c.in_ok-blocks.ensures.sizes

pub returns-in-OutOfMemory-clause-given_back : goal.returns-in-OutOfMemory-clause-given_back
returns-in-OutOfMemory-clause-given_back g c =
    c.nothing_is_out.ensures _ _ _ _ c.in_ok-blocks.ensures.out (subst (λ (ids : List ℕ). Removes c.rent_all.new.pass.books ids c.give_all.new.pass.books) (ids_of_same _ _ c.in-Err.ensures.back) c.give_all.ensures.out)
