-- Lane by lane.
use Rattle.std.proofs.Common.{arith, refl, ◌+◌, ◌-◌, min}
use Rattle.frame_fronts.proofs.CleanLemmas.{clear_more}
use Rattle.frame_fronts.proofs.clean.clear_lanes.Goals as goal

pub loop-done-init : goal.loop-done-init
loop-done-init c = record { few = omega arith; clear = λ k low high. absurd (omega (arith, low, high)) }

pub loop-done-preserved : goal.loop-done-preserved
loop-done-preserved c =
    let from = c.args.from + c.loop-done.done in
    let lane = c.if-not-is_clear_lane.ensures.clear refl in
    record {
      few = omega arith;
      clear = λ k low high. clear_more c.args.bytes.now c.args.from from (from + min 16 (c.args.len - c.loop-done.done)) (λ j above below. c.loop-done.invariant.clear j above (omega (arith, below))) lane k low (omega (arith, high));
    }

pub returns-then-not-is_clear_lane-clause-feed : goal.returns-then-not-is_clear_lane-clause-feed
returns-then-not-is_clear_lane-clause-feed c = λ other.
    let has = c.if-not-is_clear_lane.ensures.feed refl in
    record { place = has.place; low = omega (arith, has.low); high = omega (arith, has.high); feed = has.feed }

pub returns-clause-clear : goal.returns-clause-clear
returns-clause-clear c = λ yes k low high. c.loop-done.invariant.clear k low (omega (arith, high))
