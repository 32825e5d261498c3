-- The lines of one window more.
use Rattle.std.proofs.Common.{arith, drop}
use Rattle.std.proofs.lemmas.List.{length-drop}
use Rattle.frame_model.specs.declared.framing.Framing.TheVariants.{Line}
use Rattle.frame_fronts.proofs.FrontLemmas.{front_few, fronts_joined}
use Rattle.frame_fronts.proofs.lines.whole_lines.Goals as goal

pub loop-more-preserved : goal.loop-more-preserved
loop-more-preserved c =
    let so_far = c.loop-more.invariant in
    let more = c.in-Some.more in
    let found = rw c.behind.ensures at c.in-Some.ensures.counted in
    let few = front_few Line Line c.args.max (drop c.loop-more.len c.args.bytes.now) more.len more.frames found.0 found.1 in
    record {
      payloads = _;
      front = fronts_joined Line Line c.args.max c.args.bytes.now c.loop-more.len c.loop-more.frames more.len more.frames so_far.payloads found.0 so_far.front found.1;
      few = omega (arith, so_far.few, few.0);
      within = omega (arith, so_far.within, few.1, length-drop c.loop-more.len c.args.bytes.now);
    }

pub returns-clause-all : goal.returns-clause-all
returns-clause-all c = rw c.behind.ensures at c.in_default.ensures.none

pub overflow_add-frames : goal.overflow_add-frames
overflow_add-frames c =
    let so_far = c.loop-more.invariant in
    let more = c.in-Some.more in
    let found = rw c.behind.ensures at c.in-Some.ensures.counted in
    let few = front_few Line Line c.args.max (drop c.loop-more.len c.args.bytes.now) more.len more.frames found.0 found.1 in
    omega (arith, so_far.few, so_far.within, few.0, few.1, length-drop c.loop-more.len c.args.bytes.now)
