use Rattle.std.proofs.Common.{◌≡◌, ◌∙◌, ap, arith, length, rules, subst, sym}
use Rattle.std.proofs.lemmas.List.{length-append}
use Rattle.crossbeam_queue.specs.Passes.{view}
use Rattle.seg_block.specs.Numbered.{mark, times}
use Rattle.seg_pool.specs.declared.books.PassBooks.{PassBooks}
use Rattle.seg_pool.specs.Books.{AtHome}
use Rattle.seg_pool.specs.Steps.{merged}
use Rattle.seg_pool.proofs.MomentLemmas.{are_distinct, is_bounded}
use Rattle.seg_pool.proofs.StepLemmas.{merges}
use Rattle.seg_pool.proofs.WeighLemmas.{weigh-append}
use Rattle.seg_pool.proofs.pool.Pool.merge.Goals as goal

pub absorb-requires-clause-rule : goal.absorb-requires-clause-rule
absorb-requires-clause-rule c = merges c.into.inside.pass.id (view c.into.inside.pass) c.from.inside.pass.id (view c.from.inside.pass) (omega (arith, c.into.invariant.1.some_part, c.into.invariant.1.parts_are))

pub invariant_of-into : goal.invariant_of-into
invariant_of-into c =
    let v = view c.into.inside.pass in
    let u = view c.from.inside.pass in
    let w : PassBooks = view c.absorb.new.pass in
    let met : w ≡ merged v u = c.absorb.ensures.rule in
    let is : view c.learn_as.new.pass ≡ w = c.learn_as.ensures.queue.1 in
    let moment = c.learn_as.ensures.rule in
    let bound = is_bounded w moment.0 moment.1 in
    let parts = ap (λ (h : PassBooks). h.parts) met in
    let made = ap (λ (h : PassBooks). length h.made) met in
    let freed = ap (λ (h : PassBooks). length h.freed) met in
    let next = ap (λ (h : PassBooks). h.next) met in
    let limit = ap (λ (h : PassBooks). h.limit) met in
    let a = length-append v.made u.made in
    let b = length-append v.freed u.freed in
    let i = c.into.invariant.1 in
    let j = c.from.invariant.1 in (
      search rules,
      record {
        some_part = omega (arith, i.some_part);
        parts_are = omega (arith, i.parts_are, j.parts_are, parts, ap (λ (h : PassBooks). h.parts) is);
        next_is = omega (arith, i.next_is, next, ap (λ (h : PassBooks). h.next) is);
        limit_is = omega (arith, i.limit_is, limit, ap (λ (h : PassBooks). h.limit) is);
        made_are = omega (arith, i.made_are, j.made_are, made, a, ap (λ (h : PassBooks). length h.made) is);
        freed_are = omega (arith, i.freed_are, j.freed_are, freed, b, ap (λ (h : PassBooks). length h.freed) is);
        few_parts = omega (arith, i.parts_are, j.parts_are, parts, bound.parts);
        few_made = omega (arith, i.made_are, j.made_are, i.next_is, i.limit_is, made, next, limit, a, bound.made);
        few_freed = omega (arith, i.freed_are, j.freed_are, freed, b, bound.placed);
        rights = i.rights;
      },
    )

pub returns-clause-distinct : goal.returns-clause-distinct
returns-clause-distinct c = are_distinct (view c.learn_as.new.pass) c.learn_as.ensures.rule.0 (subst (λ v. AtHome v c.learn_as.ensures.rule.0) (sym c.learn_as.ensures.queue.1) c.learn_as.ensures.rule.1)

pub returns-clause-out : goal.returns-clause-out
returns-clause-out c x =
    let is = ap (λ (h : PassBooks). times x h.out) (c.learn_as.ensures.queue.1 ∙ c.absorb.ensures.rule) in
    let more = weigh-append (mark x) (view c.into.inside.pass).out (view c.from.inside.pass).out in
    omega (arith, is, more, ap (λ p. times x p.books.out) c.into.view_is, ap (λ p. times x p.books.out) c.from.view_is)
