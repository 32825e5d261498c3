use Rattle.std.proofs.Common.{ℕ, List, subst}
use Rattle.relay_model.specs.Lines.{IsWritten}
use Rattle.relay_threads.proofs.summary.tell_broken_off.Goals as goal

pub returns-clause-told : goal.returns-clause-told
returns-clause-told g c =
    subst (λ (line : List ℕ). IsWritten line (g.E.Sink.state c.args.faults.now) (g.E.Sink.state c.report_on.new.faults)) c.told_of.ensures c.report_on.ensures
