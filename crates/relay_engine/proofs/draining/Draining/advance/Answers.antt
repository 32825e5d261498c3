use Rattle.std.proofs.Common.{ap, Some, None}
use Rattle.relay_engine.specs.Draining.{DrainingState}
use Rattle.relay_engine.proofs.BehindOthersLemmas.{goes_on, is_at_end, is_refused}
use Rattle.relay_engine.proofs.draining.Draining.advance.Goals as goal
use Rattle.relay_engine.proofs.draining.Draining.advance.Goals.{in-Some, in-None}

pub returns-after-owed-clause-advanced : goal.returns-after-owed-clause-advanced
returns-after-owed-clause-advanced g c h text at owes = elim c.match-owed.branch [
  | in-Some w ↦ rw (w.result-is) (is_at_end _ _ _ c.args.self.now _ c.args.owed w.in-Some.end h text c.args.end.now c.advance.new.self w.in-Some.is (ap (λ (d : DrainingState). record d { owed = None }) c.self.view_is) g.met.P.DrainPipe.not_ours (c.in-Ok.ensures.at h at) owes)
  | in-None w ↦ rw (w.result-is) (goes_on _ _ _ c.args.self.now _ c.args.owed h text c.args.end.now c.advance.new.self w.in-None.is (ap (λ (d : DrainingState). record d { owed = None }) c.self.view_is) g.met.P.DrainPipe.not_ours (c.in-Ok.ensures.at h at) owes)
]

pub returns-in-Err-clause-advanced : goal.returns-in-Err-clause-advanced
returns-in-Err-clause-advanced g c h text at owes =
    is_refused _ _ _ c.args.self.now _ c.args.owed c.in-Err.fault h text c.args.end.now c.advance.new.self (ap (λ (d : DrainingState). record d { owed = Some c.args.owed }) c.self.view_is) g.met.P.DrainPipe.not_ours (c.in-Err.ensures.heard h at) c.in-Err.ensures.refused owes
