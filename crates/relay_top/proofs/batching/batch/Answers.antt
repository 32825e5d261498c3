use Rattle.std.proofs.Common.{◌∙◌, List, ap, arith, length, refl, subst, sym}
use Rattle.std.specs.Prelude.{string_bytes}
use Rattle.std.proofs.lemmas.List.{length-map}
use Rattle.relay_words.specs.Words.{texts}
use Rattle.relay_model.specs.Answers.{Answer, Sums}
use Rattle.relay_model.specs.Devices.{devices_of, with_out}
use Rattle.relay_top.proofs.BatchLemmas.{no_room, refused_all, relayed_all, relayed_from}
use Rattle.relay_top.proofs.batching.batch.Goals as goal

pub returns-in_default : goal.returns-in_default
returns-in_default g c = λ source. no_room _ _ _ _ source _ _ _ _ _ _ refl c.tell_no_memory.ensures.status refl c.tell_no_memory.ensures.told

pub returns-in_default-make : goal.returns-in_default-make
returns-in_default-make g c = λ source. no_room _ _ _ _ source _ _ _ _ _ _ refl c.tell_no_memory-in_default-make.ensures.status refl c.tell_no_memory-in_default-make.ensures.told

pub returns-in-Err : goal.returns-in-Err
returns-in-Err g c = λ source. refused_all (texts c.args.names.now) c.args.first c.in-Err.refusal.opened c.args.job.now c.tell_refusal.result source c.in-Err.refusal.error _ _ _ _ _ _ c.in-Err.ensures.refused c.tell_refusal.ensures refl

pub give_back_all-answers-requires-clause-inlets : goal.give_back_all-answers-requires-clause-inlets
give_back_all-answers-requires-clause-inlets g c κs within =
    let are = relayed_from (g.D.Doors.state c.args.doors.now).told c.args.job.now (λ task. devices_of (g.D.Inlet.Source.state task.inlet) (g.D.Outlet.Sink.state task.outlet)) (λ done. devices_of (g.D.Inlet.Source.state done.inlet) (g.D.Outlet.Sink.state done.outlet))
    (λ done. done.report) (texts c.args.names.now) c.in-Ok-open_all.tasks.items c.in-Ok-relay_all.finished.items c.in-Ok-open_all.ensures.fresh c.in-Ok-relay_all.ensures.finished in
    let out = ap (λ d. d.inlets_out) c.in-Ok-open_all.ensures.out in
    omega (arith, out, are.same, length-map c.args.names.now string_bytes, c.in-Ok-relay_all.finished.ok)

pub give_back_all-answers-requires-clause-outlets : goal.give_back_all-answers-requires-clause-outlets
give_back_all-answers-requires-clause-outlets g c κs within =
    let are = relayed_from (g.D.Doors.state c.args.doors.now).told c.args.job.now (λ task. devices_of (g.D.Inlet.Source.state task.inlet) (g.D.Outlet.Sink.state task.outlet)) (λ done. devices_of (g.D.Inlet.Source.state done.inlet) (g.D.Outlet.Sink.state done.outlet))
    (λ done. done.report) (texts c.args.names.now) c.in-Ok-open_all.tasks.items c.in-Ok-relay_all.finished.items c.in-Ok-open_all.ensures.fresh c.in-Ok-relay_all.ensures.finished in
    let out = ap (λ d. d.outlets_out) c.in-Ok-open_all.ensures.out in
    omega (arith, out, are.same, length-map c.args.names.now string_bytes, c.in-Ok-relay_all.finished.ok)

pub give_back_all-answers-requires-clause-room : goal.give_back_all-answers-requires-clause-room
give_back_all-answers-requires-clause-room g c κs within =
    let are = relayed_from (g.D.Doors.state c.args.doors.now).told c.args.job.now (λ task. devices_of (g.D.Inlet.Source.state task.inlet) (g.D.Outlet.Sink.state task.outlet)) (λ done. devices_of (g.D.Inlet.Source.state done.inlet) (g.D.Outlet.Sink.state done.outlet))
    (λ done. done.report) (texts c.args.names.now) c.in-Ok-open_all.tasks.items c.in-Ok-relay_all.finished.items c.in-Ok-open_all.ensures.fresh c.in-Ok-relay_all.ensures.finished in
    omega (arith, are.same, length-map c.args.names.now string_bytes, c.in-Ok-relay_all.finished.ok, c.in-Ok-Ok.ensures'.capacity)

pub sum_up-requires-clause-each : goal.sum_up-requires-clause-each
sum_up-requires-clause-each g c =
    let are = relayed_from (g.D.Doors.state c.args.doors.now).told c.args.job.now (λ task. devices_of (g.D.Inlet.Source.state task.inlet) (g.D.Outlet.Sink.state task.outlet)) (λ done. devices_of (g.D.Inlet.Source.state done.inlet) (g.D.Outlet.Sink.state done.outlet))
    (λ done. done.report) (texts c.args.names.now) c.in-Ok-open_all.tasks.items c.in-Ok-relay_all.finished.items c.in-Ok-open_all.ensures.fresh c.in-Ok-relay_all.ensures.finished in
    ap (λ (xs : List Answer). length xs) (c.as_slice.ensures.value ∙ c.give_back_all-answers.ensures.answers) ∙ length-map c.in-Ok-relay_all.finished.items (λ done. done.report) ∙ are.same ∙ length-map c.args.names.now string_bytes

pub returns : goal.returns
returns g c = λ source.
    let are = relayed_from (g.D.Doors.state c.args.doors.now).told c.args.job.now (λ task. devices_of (g.D.Inlet.Source.state task.inlet) (g.D.Outlet.Sink.state task.outlet)) (λ done. devices_of (g.D.Inlet.Source.state done.inlet) (g.D.Outlet.Sink.state done.outlet))
    (λ done. done.report) (texts c.args.names.now) c.in-Ok-open_all.tasks.items c.in-Ok-relay_all.finished.items c.in-Ok-open_all.ensures.fresh c.in-Ok-relay_all.ensures.finished in
    relayed_all (texts c.args.names.now) c.args.first c.args.job.now c.sum_up.result source (λ done. devices_of (g.D.Inlet.Source.state done.inlet) (g.D.Outlet.Sink.state done.outlet)) (λ done. done.report) c.in-Ok-relay_all.finished.items
    (g.D.Doors.state c.args.doors.now) (g.D.Doors.state c.open_all.new.doors) (g.D.Doors.state c.give_back_all-answers.new.doors) _ _ _ _ are
    (c.in-Ok-open_all.ensures.out ∙ ap (λ n. with_out n (g.D.Doors.state c.args.doors.now)) (sym (length-map c.args.names.now string_bytes))) c.give_back_all-answers.ensures.back (length-map c.in-Ok-relay_all.finished.items _)
    (subst (λ (xs : List Answer). Sums (texts c.args.names.now) xs c.sum_up.result (g.K.Sink.state c.args.sink.now) (g.K.Sink.state c.sum_up.new.sink) (g.E.Sink.state c.args.faults.now) (g.E.Sink.state c.sum_up.new.faults)) (c.as_slice.ensures.value ∙ c.give_back_all-answers.ensures.answers) c.sum_up.ensures)
