use Rattle.std.proofs.Common.{◌∙◌, ◌∷◌, [], ap, arith, refl, subst}
use Rattle.std.specs.Prelude.{IfOk}
use Rattle.crossbeam_queue.specs.Passes.{view}
use Rattle.seg_block.specs.Words.{id_of}
use Rattle.seg_pool.specs.declared.books.PassBooks.{PassBooks}
use Rattle.seg_pool.specs.Words.{Adds, FromHome, Rents}
use Rattle.seg_pool.proofs.RentLemmas.{new_adds, rents_one}
use Rattle.seg_pool.proofs.StepLemmas.{looks, takes}
use Rattle.seg_pool.proofs.pool.Pool.rent.Goals as goal

pub pop_as-requires-clause-rule : goal.pop_as-requires-clause-rule
pop_as-requires-clause-rule g c = (
  takes c.pass.inside.pass.id (view c.pass.inside.pass) (omega (arith, c.pass.invariant.1.some_part, c.pass.invariant.1.parts_are)),
  looks c.pass.inside.pass.id (view c.pass.inside.pass),
)

pub returns-in-Some-clause-rented : goal.returns-in-Some-clause-rented
returns-in-Some-clause-rented g c =
    let told = c.in-Some.ensures.rule in
    subst (λ p. Rents p.books (id_of c.in-Some.block) c.pop_as.new.pass.me.0.client) c.pass.view_is (FromHome c.in-Some.block told.2.0 refl told.2.1 told.0)

pub returns-in-Some-clause-out : goal.returns-in-Some-clause-out
returns-in-Some-clause-out g c = rents_one c.args.pass.now.books c.pop_as.new.pass.me.0.client (id_of c.in-Some.block) (returns-in-Some-clause-rented g c)

pub returns-in-None-clause-out : goal.returns-in-None-clause-out
returns-in-None-clause-out g c =
    let same = c.in-None.ensures.rule.0 ∙ ap (λ p. p.books) c.pass.view_is in
    subst (λ (v : PassBooks). IfOk c.make_block.result (λ block. Adds v (id_of block ∷ []) c.make_block.new.pass.books)) same
    (new_adds c.pop_as.new.pass.me.0.client c.make_block.new.pass.books c.make_block.result c.make_block.ensures.made)
