-- Each segment that the reader has is in one place.
use Rattle.std.proofs.Common.{subst}
use Rattle.pipe_state.specs.Segments.{AreOf, SegmentsState}
use Rattle.pipe_state.proofs.AmongLemmas.{reader_of}
use Rattle.pipe_state.proofs.segments.Segments.reader_blocks.Goals as goal

pub returns : goal.returns
returns c =
    let s = c.self.inside in let is = c.self.invariant.0 in
    subst (λ (v : SegmentsState). AreOf v.blocks v.reader.segments) c.self.view_is (reader_of _ s.reader.value.segments s.inbox.arrivals.items s.writer.value.segments s.made_of.value is.order)
