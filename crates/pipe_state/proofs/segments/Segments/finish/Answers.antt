use Rattle.std.proofs.Common.{true, sym, ap, subst, ◌∙◌, arith}
use Rattle.pipe_state.specs.Fetched.{arrive}
use Rattle.pipe_state.specs.Released.{names_of}
use Rattle.pipe_state.specs.Sending.{committed_in}
use Rattle.pipe_state.specs.Segments.{IsSegments, SegmentsState, sent_in, without_first}
use Rattle.pipe_state.proofs.segments.Segments.finish.Goals as goal
use Rattle.pipe_state.proofs.SegmentsLemmas.{sends_first, finishes, first_is}

pub put-requires : goal.put-requires
put-requires c =
    let s = c.self.inside in
    let sent = sends_first s.home s.inbox.arrivals s.reader.value s.writer.value s.made_of.value c.args.filling (committed_in c.args.filling true) c.finish-arrival.result
    (first_is c.args.filling c.args.half.now.value s.writer.value c.update_halves.ensures.same c.requires.first) c.finish-arrival.ensures c.self.invariant.0 in
    let room = sent.room in let capacity = c.self.invariant.0.inbox_room in
    record { room = omega arith }

pub invariant_of-self : goal.invariant_of-self
invariant_of-self c =
    let s = c.self.inside in
    let is = finishes s.home s.inbox.arrivals s.reader.value s.writer.value s.made_of.value c.args.filling c.finish-arrival.result
    (first_is c.args.filling c.args.half.now.value s.writer.value c.update_halves.ensures.same c.requires.first) c.finish-arrival.ensures c.self.invariant.0 in (
      subst (λ w. IsSegments s.home c.put.new.self.arrivals s.reader.value w s.made_of.value) (sym c.update_halves.ensures.shared)
          (subst (λ b. IsSegments s.home b s.reader.value (without_first s.writer.value) s.made_of.value) (sym c.put.ensures.count) is),
      c.self.invariant.1,
    )

pub returns-clause-state : goal.returns-clause-state
returns-clause-state c =
    let s = c.self.inside in
    let sent = sends_first s.home s.inbox.arrivals s.reader.value s.writer.value s.made_of.value c.args.filling (committed_in c.args.filling true) c.finish-arrival.result
    (first_is c.args.filling c.args.half.now.value s.writer.value c.update_halves.ensures.same c.requires.first) c.finish-arrival.ensures c.self.invariant.0 in
    let live = ap (λ b. arrive s.reader.value.segments b.items) c.put.ensures.count ∙ sent.sent in
    let writer = c.update_halves.ensures.shared in let name = c.update_halves.ensures.shared_name in
    (λ i. record { home = names_of s.home.items; live = live i; reader = s.reader.value; writer = writer i; reader_name = s.reader.name; writer_name = name i; blocks = s.made_of.value })
    ∙ ap {A = SegmentsState} (λ v. record v { live = sent_in c.args.filling.sent (committed_in c.args.filling true) v.live; writer = without_first v.writer }) c.self.view_is
