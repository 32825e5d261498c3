use Rattle.std.proofs.Common.{◌∙◌, ap, length, subst}
use Rattle.crossbeam_queue.specs.Passes.{view}
use Rattle.seg_pool.specs.Books.{KnowsAll}
use Rattle.seg_pool.proofs.MomentLemmas.{audits, knows_all}
use Rattle.seg_pool.proofs.pool.Pool.audit.Goals as goal

pub overflow_sub-result : goal.overflow_sub-result
overflow_sub-result g c =
    let held = c.len_as-home.ensures.rule.1 in
    (audits c.pass.inside.made c.pass.inside.freed c.len_as-home.result (view c.pass.inside.pass) c.pass.invariant.1.made_are c.pass.invariant.1.freed_are (ap (λ p. p.books.parts) c.pass.view_is ∙ c.requires.all) held.0 held.1 held.2).enough

pub overflow_sub-result-2 : goal.overflow_sub-result-2
overflow_sub-result-2 g c =
    let held = c.len_as-home.ensures.rule.1 in
    (audits c.pass.inside.made c.pass.inside.freed c.len_as-home.result (view c.pass.inside.pass) c.pass.invariant.1.made_are c.pass.invariant.1.freed_are (ap (λ p. p.books.parts) c.pass.view_is ∙ c.requires.all) held.0 held.1 held.2).within

pub returns-clause-out : goal.returns-clause-out
returns-clause-out g c =
    let held = c.len_as-home.ensures.rule.1 in
    (audits c.pass.inside.made c.pass.inside.freed c.len_as-home.result (view c.pass.inside.pass) c.pass.invariant.1.made_are c.pass.invariant.1.freed_are (ap (λ p. p.books.parts) c.pass.view_is ∙ c.requires.all) held.0 held.1 held.2).rest
    ∙ ap (λ p. length p.books.out) c.pass.view_is

pub returns-clause-home : goal.returns-clause-home
returns-clause-home g c =
    let held = c.len_as-home.ensures.rule.1 in
    (held.0, held.1, subst (λ p. KnowsAll p.books held.0) c.pass.view_is (knows_all (view c.pass.inside.pass) held.0 held.2 (ap (λ p. p.books.parts) c.pass.view_is ∙ c.requires.all)))

pub returns-clause-balance : goal.returns-clause-balance
returns-clause-balance g c =
    let held = c.len_as-home.ensures.rule.1 in
    (audits c.pass.inside.made c.pass.inside.freed c.len_as-home.result (view c.pass.inside.pass) c.pass.invariant.1.made_are c.pass.invariant.1.freed_are (ap (λ p. p.books.parts) c.pass.view_is ∙ c.requires.all) held.0 held.1 held.2).balance
