use Rattle.std.proofs.Common.{sym, subst}
use Rattle.pipe_state.specs.Segments.{IsSegments}
use Rattle.pipe_state.proofs.segments.Segments.give_back.Goals as goal
use Rattle.pipe_state.proofs.SegmentsLemmas.{gives, home_has_room, only_is}

pub put_behind-requires : goal.put_behind-requires
put_behind-requires c =
    let s = c.self.inside in
    home_has_room s.home s.inbox.arrivals s.reader.value s.writer.value s.made_of.value c.args.filling
    (only_is c.args.filling c.args.half.now.value s.writer.value c.update_halves.ensures.same c.requires.only) c.self.invariant.0

pub invariant_of-self : goal.invariant_of-self
invariant_of-self c =
    let s = c.self.inside in (
      subst (λ w. IsSegments c.put_behind.new.ring s.inbox.arrivals s.reader.value w s.made_of.value) (sym c.update_halves.ensures.shared)
          (gives s.home c.put_behind.new.ring s.inbox.arrivals s.reader.value s.writer.value s.made_of.value c.give_up.result c.args.filling
          (only_is c.args.filling c.args.half.now.value s.writer.value c.update_halves.ensures.same c.requires.only) c.requires.unsent c.give_up.ensures c.put_behind.ensures c.self.invariant.0),
      c.self.invariant.1,
    )
