use Rattle.std.proofs.Common.{◌∙◌, sym}
use Rattle.std.proofs.lemmas.Iterator.Consumers.{YieldsList-end}
use Rattle.std.proofs.lemmas.Iterator.Adapters.{YieldsList-from_vec}
use Rattle.std.proofs.lemmas.List.{map-id}
use Rattle.relay_top.proofs.OpeningLemmas.{all_back, one_more_back}
use Rattle.relay_top.proofs.doors.give_back_unused.Goals as goal

pub loop-task-preserved : goal.loop-task-preserved
loop-task-preserved g c = one_more_back _ c.loop-task.yielded c.in-Some.task _ _ _ c.loop-task.invariant c.give_back.ensures

pub returns : goal.returns
returns g c =
    let t = YieldsList-end (YieldsList-from_vec c.args.tasks.items (search) (search)) c.loop-task.yielded _ c.loop-task.yielded_by _ c.next.new.self c.in-None.is c.next.ensures.steps in
    all_back _ c.loop-task.yielded c.args.tasks.items _ _ (sym (map-id c.loop-task.yielded) ∙ t.0) c.loop-task.invariant
