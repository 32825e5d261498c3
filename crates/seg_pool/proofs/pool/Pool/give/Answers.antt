use Rattle.std.proofs.Common.{◌≡◌, ◌<◌, ◌∙◌, ap, arith, length, subst, sym, ℕ}
use Rattle.std.proofs.lemmas.List.{length_push}
use Rattle.crossbeam_queue.specs.Passes.{ruled_capacity, view}
use Rattle.seg_block.specs.Words.{id_of}
use Rattle.seg_block.specs.Numbered.{times}
use Rattle.seg_pool.specs.declared.books.PassBooks.{PassBooks}
use Rattle.seg_pool.specs.Steps.{freeing}
use Rattle.seg_pool.specs.Words.{Freed, Gives, ToHome}
use Rattle.seg_pool.proofs.MomentLemmas.{one_more_freed}
use Rattle.seg_pool.proofs.RentLemmas.{gives_one}
use Rattle.seg_pool.proofs.StepLemmas.{looks, returns}
use Rattle.seg_pool.proofs.pool.Pool.give.Goals as goal

pub push_as-requires-clause-rule : goal.push_as-requires-clause-rule
push_as-requires-clause-rule g c =
    let same = c.pass.view_is in
    let pool = c.self.view_is in (
      returns (ruled_capacity c.self.inside.home) c.pass.inside.pass.id (view c.pass.inside.pass) c.args.block
          (ap (λ p. p.keep) pool ∙ sym c.requires.pool.kept ∙ sym (ap (λ p. p.books.keep) same))
          (c.requires.size ∙ sym c.requires.pool.sized ∙ sym (ap (λ p. p.books.segment) same))
          (subst (λ (n : ℕ). 0 < n) (sym (ap (λ p. times (id_of c.args.block) p.books.out) same)) c.requires.out),
      looks c.pass.inside.pass.id (view c.pass.inside.pass),
    )

pub invariant_of-pass-in-Err : goal.invariant_of-pass-in-Err
invariant_of-pass-in-Err g c =
    let v : PassBooks = view c.pass.inside.pass in
    let told = c.in-Err.ensures.rule in
    let same : view c.push_as.new.pass ≡ v = told.1 in
    let held = told.2 in
    let mine = subst (λ (n : ℕ). 0 < n) (sym (ap (λ p. times (id_of c.args.block) p.books.out) c.pass.view_is)) c.requires.out in
    let one = one_more_freed v held.0 (id_of c.args.block) held.2 mine in
    let is : view c.free.new.pass ≡ freeing c.id-id.result v = c.free.ensures.freed ∙ ap (λ (h : PassBooks). freeing c.id-id.result h) same in
    let i = c.pass.invariant.1 in
    let more = length_push v.freed c.id-id.result in (
      c.free.ensures.pass.1,
      record {
        some_part = i.some_part;
        parts_are = i.parts_are ∙ sym (ap (λ (h : PassBooks). h.parts) is);
        next_is = i.next_is ∙ sym (ap (λ (h : PassBooks). h.next) is);
        limit_is = i.limit_is ∙ sym (ap (λ (h : PassBooks). h.limit) is);
        made_are = i.made_are ∙ sym (ap (λ (h : PassBooks). length h.made) is);
        freed_are = omega (arith, i.freed_are, more, ap (λ (h : PassBooks). length h.freed) is);
        few_parts = i.few_parts;
        few_made = i.few_made;
        few_freed = omega (arith, i.freed_are, one);
        rights = i.rights;
      },
    )

pub returns-in-Ok-clause-given : goal.returns-in-Ok-clause-given
returns-in-Ok-clause-given g c =
    let told = c.in-Ok.ensures.rule in
    subst (λ p. Gives p.books (id_of c.args.block) c.push_as.new.pass.me.0.client) c.pass.view_is (ToHome told.1.0 told.1.1 told.1.2 told.0)

pub returns-in-Err-clause-given : goal.returns-in-Err-clause-given
returns-in-Err-clause-given g c =
    let v : PassBooks = view c.pass.inside.pass in
    let told = c.in-Err.ensures.rule in
    let held = told.2 in
    let full = held.1 ∙ ap (λ p. p.keep) c.self.view_is ∙ sym c.requires.pool.kept ∙ sym (ap (λ p. p.books.keep) c.pass.view_is) in
    let is = c.free.ensures.freed ∙ ap (λ (h : PassBooks). freeing c.id-id.result h) told.1 ∙ ap (λ (id : ℕ). freeing id v) c.id-id.ensures in
    subst (λ p. Gives p.books (id_of c.args.block) c.free.new.pass.me.0.client) c.pass.view_is (Freed held.0 full held.2 is)

pub returns-in-Ok-clause-out : goal.returns-in-Ok-clause-out
returns-in-Ok-clause-out g c = gives_one c.args.pass.now.books c.push_as.new.pass.me.0.client (id_of c.args.block) c.requires.out (returns-in-Ok-clause-given g c)

pub returns-in-Err-clause-out : goal.returns-in-Err-clause-out
returns-in-Err-clause-out g c = gives_one c.args.pass.now.books c.free.new.pass.me.0.client (id_of c.args.block) c.requires.out (returns-in-Err-clause-given g c)
