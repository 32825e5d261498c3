use Rattle.std.proofs.Common.{length, ap, arith}
use Rattle.pipe_state.specs.Fetched.{arrive}
use Rattle.pipe_state.proofs.segments.Segments.fetch.Goals as goal
use Rattle.pipe_state.proofs.SegmentsLemmas.{fetch_has_room}

pub fetch-requires-clause-room : goal.fetch-requires-clause-room
fetch-requires-clause-room c =
    let s = c.self.inside in
    let few = fetch_has_room s.home s.inbox.arrivals s.reader.value s.writer.value s.made_of.value c.self.invariant.0 in
    let same = ap (λ r. length (arrive r.segments s.inbox.arrivals.items)) (c.update_halves.ensures.same) in
    let told = ap (λ r. length (arrive r.segments s.inbox.arrivals.items)) c.args.reading.now.told in
    let blocks = ap (λ v. length v.blocks) c.self.view_is in
    let room = c.requires.room in
    omega arith
