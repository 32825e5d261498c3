use Rattle.std.proofs.Common.{sym, subst}
use Rattle.std.specs.Prelude.{IsNone}
use Rattle.pipe_state.proofs.HeldLemmas.{read_held}
use Rattle.pipe_state.proofs.state.PipeState.read_at_least.Goals as goal

pub invariant_of-self : goal.invariant_of-self
invariant_of-self c =
    let p = c.self.inside in
    read_held p.control c.read_at_least-answer.new.self p.segments c.fetch.new.self p.retired c.args.n c.self.invariant (subst (λ s. IsNone s.control.gone) (sym c.self.view_is) c.requires.attended)
    c.fetch.ensures.state c.read_at_least-answer.ensures.stands c.read_at_least-answer.ensures.gone c.read_at_least-answer.ensures.ended
