use Rattle.std.proofs.Common.{◌≡◌, ◌≤◌, ◌+◌, ◌++◌, length, ap, sym, subst, ◌∙◌, arith}
use Rattle.std.proofs.lemmas.List.{length-map}
use Rattle.pipe_state.specs.Fetched.{all_fetched, arrive, fetched_of}
use Rattle.pipe_state.specs.Chains.{first_len}
use Rattle.pipe_state.specs.Released.{FinishedBefore, bytes_in, first_goes, names_of}
use Rattle.pipe_state.specs.Segments.{IsSegments, Releases, SegmentsState}
use Rattle.pipe_state.proofs.segments.Segments.release.Goals as goal
use Rattle.pipe_state.proofs.SpanLemmas.{spans_len}
use Rattle.pipe_state.proofs.GoneLemmas.{fetched_in_order, leaves, release_has_room}

pub release-requires-clause-order : goal.release-requires-clause-order
release-requires-clause-order c =
    let s = c.self.inside in
    subst (λ r. FinishedBefore r.segments) (sym c.update_halves.ensures.same ∙ c.args.reading.now.told)
    (fetched_in_order (names_of s.home.items) s.reader.value.segments s.inbox.arrivals.items s.writer.value.segments s.made_of.value c.self.invariant.0.order)

pub release-requires-clause-room : goal.release-requires-clause-room
release-requires-clause-room c =
    let s = c.self.inside in
    let room = release_has_room s.home s.inbox.arrivals s.reader.value s.writer.value s.made_of.value c.self.invariant.0 in
    let same = ap (λ r. length r.segments) (sym c.update_halves.ensures.same ∙ c.args.reading.now.told) in
    let count : length (all_fetched c.args.reading.now.chain.links) ≡ length c.args.reading.now.chain.links = length-map c.args.reading.now.chain.links fetched_of in
    omega arith

pub invariant_of-self : goal.invariant_of-self
invariant_of-self c =
    let s = c.self.inside in
    let l = leaves s.home c.release.new.home s.inbox.arrivals s.reader.value c.args.reading.now.chain c.release.new.self s.writer.value s.made_of.value c.args.n
    (sym c.args.reading.now.told ∙ c.update_halves.ensures.same) c.release.ensures.links c.release.ensures.skip c.release.ensures.within c.release.ensures.home c.release.ensures.home_capacity c.self.invariant.0 in
    let counted = c.count-self-inside.ensures ∙ spans_len c.release.new.self.skip (all_fetched c.release.new.self.links) ∙ ap (λ r. length r.segments) (sym c.note_chain.ensures.shared) in
    (subst (λ r. IsSegments c.release.new.home s.inbox.arrivals r s.writer.value s.made_of.value) (sym c.note_chain.ensures.shared) l.stands, counted)

pub returns-clause-state : goal.returns-clause-state
returns-clause-state c =
    let s = c.self.inside in
    let l = leaves s.home c.release.new.home s.inbox.arrivals s.reader.value c.args.reading.now.chain c.release.new.self s.writer.value s.made_of.value c.args.n
    (sym c.args.reading.now.told ∙ c.update_halves.ensures.same) c.release.ensures.links c.release.ensures.skip c.release.ensures.within c.release.ensures.home c.release.ensures.home_capacity c.self.invariant.0 in
    let now = sym c.note_chain.ensures.shared in
    let name = c.note_chain.ensures.names.0 ∙ c.update_halves.ensures.shared_name in
    let after : SegmentsState = record { home = names_of c.release.new.home.items; live = arrive c.note_chain.new.shared.value.segments s.inbox.arrivals.items; reader = c.note_chain.new.shared.value; writer = s.writer.value; reader_name = c.note_chain.new.shared.name; writer_name = s.writer.name; blocks = s.made_of.value } in
    subst (λ v. Releases c.args.n v after) c.self.view_is (record {
      gone = l.gone;
      fetched = l.fetched ∙ ap (λ r. l.gone ++ r.segments) now;
      live = l.live ∙ ap (λ r. l.gone ++ arrive r.segments s.inbox.arrivals.items) now;
      finished = l.finished;
      skip = l.skip ∙ ap (λ r. length (bytes_in l.gone) + r.skip) now;
      within = subst (λ r. r.skip ≤ first_len (arrive r.segments s.inbox.arrivals.items)) now l.within;
      stays = ap (λ r. first_goes r.skip r.segments) (sym now) ∙ l.stays;
      home = l.home_is;
      kept = (λ i. record { home = names_of c.release.new.home.items; live = arrive c.note_chain.new.shared.value.segments s.inbox.arrivals.items; reader = c.note_chain.new.shared.value; writer = s.writer.value; reader_name = name i; writer_name = s.writer.name; blocks = s.made_of.value });
    })
