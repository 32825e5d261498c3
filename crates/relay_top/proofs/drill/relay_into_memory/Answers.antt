-- The generated input was read to its end, or is bad, or the memory was short.
use Rattle.std.proofs.Common.{Some, ℕ, List, refl, ap}
use Rattle.relay_top.proofs.DrillLemmas.{all_ended}
use Rattle.relay_top.proofs.drill.relay_into_memory.Goals as goal

pub returns : goal.returns
returns g c =
    all_ended c.bad_stays_bad.ensures c.generated_has_no_rest.ensures c.open_until_the_end.ensures.not_open c.generated_is_small.ensures.small
    c.args.seed c.args.count c.args.job.now c.pump_and_settle.result _ _ _ _
    (ap (λ (x : List ℕ). Some x) c.new-source.ensures) refl refl c.requires.limit c.requires.few c.pump_and_settle.ensures.reported
