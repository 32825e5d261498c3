use Rattle.std.proofs.Common.{◌≡◌, ◌≤◌, ◌+◌, ◌++◌, ◌∙◌, ap, sym, subst, length, is_ok, arith, Ok, if◌then◌else◌}
use Rattle.std.specs.Prelude.{IsOk}
use Rattle.std.proofs.lemmas.Bool.{false≢true}
use Rattle.std.specs.List.{AllZip}
use Rattle.std.specs.Vec.{vec_len, vec_capacity}
use Rattle.std.proofs.lemmas.List.{length-append}
use Rattle.crossbeam_queue.specs.Passes.{view}
use Rattle.shared_work.specs.Tasks.{both}
use Rattle.shared_work.specs.Workers.{Does}
use Rattle.shared_work.specs.declared.placed.WorkerView.{WorkerView}
use Rattle.shared_work.proofs.WorkerLemmas.{fits, workers_met}
use Rattle.shared_work.proofs.StepLemmas.{merges, taken_few}
use Rattle.shared_work.proofs.workers.take_in.Goals as goal

pub absorb-requires-clause-rule : goal.absorb-requires-clause-rule
absorb-requires-clause-rule g c = merges c.args.mine.pass.id (view c.args.mine.pass) c.args.theirs.pass.id (view c.args.theirs.pass) c.requires.mine.some_part c.requires.theirs.some_part

pub unreachable-requires : goal.unreachable-requires
unreachable-requires g c =
    let v = view c.args.mine.pass in
    let u = view c.args.theirs.pass in
    let w = view c.absorb.new.pass in
    let met : w ≡ both v u = c.absorb.ensures.rule in
    let stands = c.learn_as.ensures.rule in
    let few = taken_few w stands.0 stands.1 (let p = ap (λ (s : WorkerView _). s.parts) met in let q = c.requires.mine.some_part in omega (arith, p, q)) in
    let ok = c.append.ensures.succeeds (fits (Does (g.W.Work.gives c.args.work.now)) v u w c.args.mine.done c.args.theirs.done met c.requires.mine.done c.requires.theirs.done few c.requires.room) in
    false≢true (subst (λ r. IsOk r) c.in_default.is ok)

pub returns-clause-worker : goal.returns-clause-worker
returns-clause-worker g c =
    workers_met (g.W.Work.gives c.args.work.now) c.args.queue.now c.args.pool.now c.args.mine c.args.theirs c.absorb.new.pass c.learn_as.new.pass c.merge.new.into c.append.new.self c.requires.mine c.requires.theirs
    c.absorb.ensures.queue c.absorb.ensures.rule (c.learn_as.ensures.queue.0) (c.learn_as.ensures.queue.1) c.merge.ensures.pool c.in-Ok.ensures.items
