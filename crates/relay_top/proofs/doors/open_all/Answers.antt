use Rattle.std.proofs.Common.{arith}
use Rattle.std.specs.Prelude.{string_bytes}
use Rattle.relay_model.specs.Devices.{devices_of}
use Rattle.relay_top.proofs.OpeningLemmas.{enough_out, opened_on, refused_at_once, refused_on}
use Rattle.relay_top.proofs.doors.open_all.Goals as goal

pub returns-in_default-clause-refused : goal.returns-in_default-clause-refused
returns-in_default-clause-refused g c = refused_at_once _ _

pub give_back_unused-requires-clause-inlets : goal.give_back_unused-requires-clause-inlets
give_back_unused-requires-clause-inlets g c κs within =
    let enough = enough_out string_bytes (λ task. devices_of (g.D.Inlet.Source.state task.inlet) (g.D.Outlet.Sink.state task.outlet)) c.args.names.now c.loop-name.invariant.0 c.loop-name.rest.now c.in-Some.behind.now c.in-Some.name.now _
    c.loop-name.tasks.items _ _ c.in-Err.error _ c.loop-name.invariant.2 c.loop-name.invariant.3 c.in-Err.ensures.refused in
    omega (arith, enough.0, c.loop-name.tasks.ok)

pub give_back_unused-requires-clause-outlets : goal.give_back_unused-requires-clause-outlets
give_back_unused-requires-clause-outlets g c κs within =
    let enough = enough_out string_bytes (λ task. devices_of (g.D.Inlet.Source.state task.inlet) (g.D.Outlet.Sink.state task.outlet)) c.args.names.now c.loop-name.invariant.0 c.loop-name.rest.now c.in-Some.behind.now c.in-Some.name.now _
    c.loop-name.tasks.items _ _ c.in-Err.error _ c.loop-name.invariant.2 c.loop-name.invariant.3 c.in-Err.ensures.refused in
    omega (arith, enough.1, c.loop-name.tasks.ok)

pub returns-in-Err-clause-refused : goal.returns-in-Err-clause-refused
returns-in-Err-clause-refused g c =
    refused_on string_bytes (λ task. devices_of (g.D.Inlet.Source.state task.inlet) (g.D.Outlet.Sink.state task.outlet)) c.args.names.now c.loop-name.invariant.0 c.loop-name.rest.now c.in-Some.behind.now c.in-Some.name.now _
    c.loop-name.tasks.items _ _ c.in-Err.error c.len-opened.result _ _ c.loop-name.invariant.1 c.in-Some.ensures.cases.0 c.as_str.ensures.value c.loop-name.invariant.2 c.loop-name.invariant.3 c.in-Err.ensures.refused c.give_back_unused.ensures
    (omega (arith, c.len-opened.ensures, c.loop-name.tasks.ok))

pub loop-name-preserved : goal.loop-name-preserved
loop-name-preserved g c =
    let on = opened_on string_bytes (λ task. devices_of (g.D.Inlet.Source.state task.inlet) (g.D.Outlet.Sink.state task.outlet)) c.args.names.now c.loop-name.invariant.0 c.loop-name.rest.now c.in-Some.behind.now c.in-Some.name.now _
    c.loop-name.tasks.items _ _ c.in-Ok-open.task _ _ c.loop-name.invariant.1 c.in-Some.ensures.cases.0 c.as_str.ensures.value c.loop-name.invariant.2 c.loop-name.invariant.3 c.in-Ok-open.ensures.fresh c.in-Ok-open.ensures.out c.in-Ok-push.ensures.items in
    (on.0, on.1, on.2, on.3, omega (arith, c.loop-name.invariant.4, c.in-Ok-push.ensures.len, c.push.ensures.capacity, c.in-Some.ensures.cases.1))
