use Rattle.std.proofs.Common.{false, sym, ap, subst, ◌∙◌, arith}
use Rattle.pipe_state.specs.Fetched.{arrive}
use Rattle.pipe_state.specs.Released.{names_of}
use Rattle.pipe_state.specs.Sending.{committed_in, with_committed}
use Rattle.pipe_state.specs.Segments.{IsSegments, SegmentsState, sent_in, with_one}
use Rattle.pipe_state.proofs.segments.Segments.commit.Goals as goal
use Rattle.pipe_state.proofs.SegmentsLemmas.{sends_first, commits, only_first, only_is}

pub put-requires : goal.put-requires
put-requires c =
    let s = c.self.inside in
    let sent = sends_first s.home s.inbox.arrivals s.reader.value s.writer.value s.made_of.value c.args.filling.now (committed_in c.args.filling.now false) c.commit-arrival.result
    (only_first c.args.filling.now s.writer.value (only_is c.args.filling.now c.args.half.now.value s.writer.value c.note_one.ensures.same c.requires.only)) c.commit-arrival.ensures.told c.self.invariant.0 in
    let room = sent.room in let capacity = c.self.invariant.0.inbox_room in
    record { room = omega arith }

pub invariant_of-self : goal.invariant_of-self
invariant_of-self c =
    let s = c.self.inside in
    let is = commits s.home s.inbox.arrivals s.reader.value s.writer.value s.made_of.value c.args.filling.now c.commit-arrival.result
    (only_is c.args.filling.now c.args.half.now.value s.writer.value c.note_one.ensures.same c.requires.only) c.commit-arrival.ensures.told c.self.invariant.0 in (
      subst (λ w. IsSegments s.home c.put.new.self.arrivals s.reader.value w s.made_of.value) (sym (c.note_one.ensures.shared ∙ ap (λ f. with_one f s.writer.value) c.commit-arrival.ensures.filling))
          (subst (λ b. IsSegments s.home b s.reader.value (with_one (with_committed c.args.filling.now) s.writer.value) s.made_of.value) (sym c.put.ensures.count) is),
      c.self.invariant.1,
    )

pub returns-clause-state : goal.returns-clause-state
returns-clause-state c =
    let s = c.self.inside in
    let sent = sends_first s.home s.inbox.arrivals s.reader.value s.writer.value s.made_of.value c.args.filling.now (committed_in c.args.filling.now false) c.commit-arrival.result
    (only_first c.args.filling.now s.writer.value (only_is c.args.filling.now c.args.half.now.value s.writer.value c.note_one.ensures.same c.requires.only)) c.commit-arrival.ensures.told c.self.invariant.0 in
    let live = ap (λ b. arrive s.reader.value.segments b.items) c.put.ensures.count ∙ sent.sent in
    let writer = c.note_one.ensures.shared in let name = c.note_one.ensures.names.0 in
    (λ i. record { home = names_of s.home.items; live = live i; reader = s.reader.value; writer = writer i; reader_name = s.reader.name; writer_name = name i; blocks = s.made_of.value })
    ∙ ap {A = SegmentsState} (λ v. record v { live = sent_in c.args.filling.now.sent (committed_in c.args.filling.now false) v.live; writer = with_one c.commit-arrival.new.self v.writer }) c.self.view_is
