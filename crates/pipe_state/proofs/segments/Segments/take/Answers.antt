use Rattle.std.proofs.Common.{sym, subst, ◌∙◌}
use Rattle.pipe_state.specs.Segments.{IsSegments}
use Rattle.pipe_state.proofs.segments.Segments.take.Goals as goal
use Rattle.pipe_state.proofs.SegmentsLemmas.{takes}

pub invariant_of-self : goal.invariant_of-self
invariant_of-self c =
    let s = c.self.inside in (
      subst (λ w. IsSegments c.pop_front.new.self s.inbox.arrivals s.reader.value w s.made_of.value) (sym c.note_next.ensures.shared)
          (takes s.home c.pop_front.new.self s.inbox.arrivals s.reader.value s.writer.value s.made_of.value c.in-Some.block c.start-filling.result c.args.hint
          (sym c.pop_front.ensures.value ∙ c.in-Some.is) c.pop_front.ensures.items c.start-filling.ensures.block c.start-filling.ensures.empty.0 c.start-filling.ensures.empty.2 c.self.invariant.0),
      c.self.invariant.1,
    )
