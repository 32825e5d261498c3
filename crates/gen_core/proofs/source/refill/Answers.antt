-- The next frame comes next.
use Rattle.std.proofs.Common.{arith, ◌∙◌, ap}
use Rattle.frame_model.specs.Spelling.{spelling}
use Rattle.gen_core.proofs.GenLemmas.{payload_is_short, refilled_behind}
use Rattle.gen_core.proofs.source.refill.Goals as goal

pub fill-requires : goal.fill-requires
fill-requires c = rw c.payload_of.ensures (payload_is_short c.args.seed c.args.next)

pub returns-clause-left : goal.returns-clause-left
returns-clause-left c =
    refilled_behind c.args.framing c.args.seed c.args.next c.args.count c.args.frame.now c.fill.new.self (omega arith) (omega (arith, c.len.ensures)) (c.fill.ensures ∙ ap (λ p. spelling c.args.framing p) c.payload_of.ensures)
