-- What stands before the last lane, and that lane.
use Rattle.std.proofs.Common.{arith, length, ◌-◌}
use Rattle.std.proofs.lemmas.Option.{IfSome_then}
use Rattle.frame_fronts.proofs.FrontLemmas.{few_behind, none_then, whole_before}
use Rattle.frame_fronts.proofs.spell.frame_before_lane.Goals as goal

pub returns-clause-whole : goal.returns-clause-whole
returns-clause-whole c =
    let x = c.args.bytes.now in
    IfSome_then c.whole_frame.result (rw c.before_last_lane.ensures at c.whole_frame.ensures.whole) (λ place is. whole_before c.args.input c.args.max x (length x - 16) place.from place.len place.end (λ k. omega (arith, c.type_inv.bytes k)) is)

pub returns-clause-none : goal.returns-clause-none
returns-clause-none c =
    none_then c.whole_frame.result (rw c.before_last_lane.ensures at c.whole_frame.ensures.none) (few_behind c.args.input c.args.max c.args.bytes.now 16 (λ k. omega (arith, c.type_inv.bytes k)) (omega (arith, c.if-bytes-lt16.false)))
