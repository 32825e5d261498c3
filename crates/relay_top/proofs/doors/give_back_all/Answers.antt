use Rattle.std.proofs.Common.{◌∙◌, sym, ap, ◌++◌, ◌∷◌, [], arith}
use Rattle.std.proofs.lemmas.Iterator.Consumers.{YieldsList-end}
use Rattle.std.proofs.lemmas.Iterator.Adapters.{YieldsList-from_vec}
use Rattle.std.proofs.lemmas.List.{map-append, map-id}
use Rattle.relay_top.proofs.OpeningLemmas.{all_back, one_more_back}
use Rattle.relay_top.proofs.doors.give_back_all.Goals as goal

pub loop-done-preserved : goal.loop-done-preserved
loop-done-preserved g c = (
  one_more_back _ c.loop-done.yielded c.in-Some.done _ _ _ c.loop-done.invariant.0 c.give_back.ensures,
  c.in-Ok.ensures.items ∙ ap (λ xs. xs ++ c.in-Some.done.report ∷ []) c.loop-done.invariant.1 ∙ sym (map-append (λ done. done.report) c.loop-done.yielded (c.in-Some.done ∷ [])),
  omega (arith, c.loop-done.invariant.2, c.push.ensures.capacity),
)

pub returns-clause-back : goal.returns-clause-back
returns-clause-back g c =
    let t = YieldsList-end (YieldsList-from_vec c.args.finished.items (search) (search)) c.loop-done.yielded _ c.loop-done.yielded_by _ c.next.new.self c.in-None.is c.next.ensures.steps in
    all_back _ c.loop-done.yielded c.args.finished.items _ _ (sym (map-id c.loop-done.yielded) ∙ t.0) c.loop-done.invariant.0
