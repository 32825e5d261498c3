-- The summary was broken off.
use Rattle.std.proofs.Common.{◌∙◌}
use Rattle.relay_top.proofs.DrillLemmas.{broken_off}
use Rattle.relay_top.proofs.drill.sum_up.Goals as goal

pub returns : goal.returns
returns g c = λ seed job source doors ends.
    broken_off seed c.args.count job source doors _ _ _ _ c.args.report.now.taken c.args.report.now.written _ c.in-Err.broken.written _
    (c.as_bytes.ensures.value ∙ c.in-Ok.ensures) c.in-Err.ensures.front c.tell_broken_off.ensures.status c.tell_broken_off.ensures.told ends
