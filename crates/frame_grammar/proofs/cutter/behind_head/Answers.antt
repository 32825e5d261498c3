-- What a head tells decides what stands at the front.
use Rattle.std.proofs.Common.{Some, ap, ◌∙◌}
use Rattle.span_seq.specs.Sequence.{bytes}
use Rattle.frame_model.specs.declared.head.Head.{Head}
use Rattle.frame_grammar.proofs.AnswerLemmas.{behind_told}
use Rattle.frame_grammar.proofs.cutter.behind_head.Goals as goal

pub returns-in-Told : goal.returns-in-Told
returns-in-Told g c =
    λ f told. behind_told f c.args.max (bytes c.args.seq.now) c.args.at_end c.in-Told.bytes c.in-Told.len c.payload_behind.result (told ∙ ap (λ (head : Head). Some head) c.in-Told.is) c.payload_behind.ensures
