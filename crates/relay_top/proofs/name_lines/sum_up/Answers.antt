use Rattle.std.proofs.Common.{ℕ, List, ◌∙◌, subst}
use Rattle.edge_core.specs.Device.{TakesFront}
use Rattle.relay_model.specs.Answers.{IsBrokenOff}
use Rattle.relay_top.proofs.name_lines.sum_up.Goals as goal

pub returns : goal.returns
returns g c =
    IsBrokenOff c.in-Err.broken.written
    (subst (λ (text : List ℕ). TakesFront (g.K.Sink.state c.args.sink.now) text c.in-Err.broken.written (g.K.Sink.state c.write_summary.new.sink)) (c.as_slice.ensures.value ∙ c.name_lines-lines.ensures) c.in-Err.ensures.front)
    c.tell_broken_off.ensures.status c.tell_broken_off.ensures.told
