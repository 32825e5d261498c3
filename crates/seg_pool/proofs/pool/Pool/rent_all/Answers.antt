use Rattle.std.proofs.Common.{ap, arith, length, subst, sym}
use Rattle.std.proofs.lemmas.List.{length_push}
use Rattle.crossbeam_queue.specs.Passes.{view}
use Rattle.seg_pool.specs.Books.{ids_of}
use Rattle.seg_pool.specs.Words.{Adds}
use Rattle.seg_pool.proofs.RentLemmas.{rented_are_distinct, rents_on}
use Rattle.seg_pool.proofs.pool.Pool.rent_all.Goals as goal

pub loop-preserved : goal.loop-preserved
loop-preserved g c =
    let i = c.loop.invariant in
    let items = c.push_reserved.ensures.items in
    let more = length_push c.loop.blocks.items c.in-Ok.block in (
      rents_on c.args.self.now c.args.pass.now.books c.loop.blocks.items c.push_reserved.new.self.items c.in-Ok.block c.loop.pass c.rent.new.pass i.0 items c.rent.ensures.pool c.in-Ok.ensures.size c.in-Ok.ensures.rented,
      omega (arith, more, ap length items, i.1),
      rw c.push_reserved.ensures.capacity i.2,
    )

pub returns-clause-distinct : goal.returns-clause-distinct
returns-clause-distinct g c =
    let moment = c.learn_as.ensures.rule in
    rented_are_distinct c.args.pass.now.books (view c.pass.inside.pass) _ moment.0 (subst (λ p. Adds c.args.pass.now.books (ids_of c.loop.blocks.items) p.books) (sym c.pass.view_is) c.loop.invariant.0.adds) moment.1
