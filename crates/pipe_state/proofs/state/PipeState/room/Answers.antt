use Rattle.std.proofs.Common.{ap, refl, sym, subst, ◌∙◌}
use Rattle.std.specs.Prelude.{IsNone}
use Rattle.pipe_state.specs.Segments.{SegmentsState}
use Rattle.pipe_state.specs.Held.{HoldsRuns, PipeHeld, held_made}
use Rattle.pipe_state.proofs.HeldLemmas.{SameEnds, made_stays, room_held, room_stands, same_len, settle_may, settled}
use Rattle.pipe_state.proofs.state.PipeState.room.Goals as goal

pub settle-requires-clause-within : goal.settle-requires-clause-within
settle-requires-clause-within c =
    let p = c.self.inside in let v = c.self.invariant in
    let next = c.in-Some.ensures.taken in
    let same : SameEnds p.segments c.take_next.new.segments = record {
      reader = ap (λ (t : SegmentsState). t.reader) next.segments;
      blocks = ap (λ (t : SegmentsState). t.blocks) next.segments;
      reader_name = ap (λ (t : SegmentsState). t.reader_name) next.segments;
      writer_name = ap (λ (t : SegmentsState). t.writer_name) next.segments;
    } in
    let len = same_len p.segments.live c.take_next.new.segments.live next.runs in
    (settle_may p.control.gone p.segments c.take_next.new.segments p.retired 0 v.kept same len).1

pub invariant_of-self : goal.invariant_of-self
invariant_of-self c =
    let p = c.self.inside in let v = c.self.invariant in
    let next = c.in-Some.ensures.taken in
    let same : SameEnds p.segments c.take_next.new.segments = record {
      reader = ap (λ (t : SegmentsState). t.reader) next.segments;
      blocks = ap (λ (t : SegmentsState). t.blocks) next.segments;
      reader_name = ap (λ (t : SegmentsState). t.reader_name) next.segments;
      writer_name = ap (λ (t : SegmentsState). t.writer_name) next.segments;
    } in
    let len = same_len p.segments.live c.take_next.new.segments.live next.runs in
    let stand = settled p.control.gone p.segments c.take_next.new.segments c.settle.new.segments p.retired c.settle.new.retired 0 v.kept same len c.settle.ensures in
    room_held p.control p.segments c.take_next.new.segments c.settle.new.segments p.retired c.settle.new.retired v next.runs same stand (subst (λ t. IsNone t.control.ended) (sym c.self.view_is) c.requires.going) next.filled

pub returns-in-Some-clause-stands : goal.returns-in-Some-clause-stands
returns-in-Some-clause-stands c h =
    let p = c.self.inside in let v = c.self.invariant in
    let next = c.in-Some.ensures.taken in
    let same : SameEnds p.segments c.take_next.new.segments = record {
      reader = ap (λ (t : SegmentsState). t.reader) next.segments;
      blocks = ap (λ (t : SegmentsState). t.blocks) next.segments;
      reader_name = ap (λ (t : SegmentsState). t.reader_name) next.segments;
      writer_name = ap (λ (t : SegmentsState). t.writer_name) next.segments;
    } in
    let len = same_len p.segments.live c.take_next.new.segments.live next.runs in
    let stand = settled p.control.gone p.segments c.take_next.new.segments c.settle.new.segments p.retired c.settle.new.retired 0 v.kept same len c.settle.ensures in
    let after : PipeHeld = record { control = p.control; segments = c.settle.new.segments } in
    subst (λ before. HoldsRuns before h → HoldsRuns after h) c.self.view_is (room_stands p.control p.segments c.take_next.new.segments c.settle.new.segments c.settle.new.retired h next.runs same stand)

pub returns-in-Some-clause-made : goal.returns-in-Some-clause-made
returns-in-Some-clause-made c =
    let p = c.self.inside in let v = c.self.invariant in
    let next = c.in-Some.ensures.taken in
    let same : SameEnds p.segments c.take_next.new.segments = record {
      reader = ap (λ (t : SegmentsState). t.reader) next.segments;
      blocks = ap (λ (t : SegmentsState). t.blocks) next.segments;
      reader_name = ap (λ (t : SegmentsState). t.reader_name) next.segments;
      writer_name = ap (λ (t : SegmentsState). t.writer_name) next.segments;
    } in
    let len = same_len p.segments.live c.take_next.new.segments.live next.runs in
    let stand = settled p.control.gone p.segments c.take_next.new.segments c.settle.new.segments p.retired c.settle.new.retired 0 v.kept same len c.settle.ensures in
    made_stays p.control p.control p.segments c.settle.new.segments refl (stand.ends.0 ∙ same.blocks) (stand.ends.1 ∙ same.reader_name) (stand.ends.2 ∙ same.writer_name) ∙ ap held_made c.self.view_is
