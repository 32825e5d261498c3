use Rattle.std.proofs.Common.{[], ◌∷◌, ap, subst, ◌∙◌}
use Rattle.pipe_core.specs.Answers.{Woke}
use Rattle.pipe_core.specs.History.{EndWriter}
use Rattle.pipe_state.specs.Segments.{SegmentsState}
use Rattle.pipe_state.specs.Held.{HeldAnswers, PipeHeld}
use Rattle.pipe_state.proofs.HeldLemmas.{SameEnds, end_held, end_stands, made_stays, nothing_joined, same_len, settle_may, settled}
use Rattle.pipe_state.proofs.state.PipeState.end.Goals as goal

pub settle-requires-clause-within : goal.settle-requires-clause-within
settle-requires-clause-within c =
    let p = c.self.inside in let v = c.self.invariant in
    let only = c.complete.ensures.segments in
    let same : SameEnds p.segments c.complete.new.segments = record {
      reader = ap (λ (t : SegmentsState). t.reader) only;
      blocks = ap (λ (t : SegmentsState). t.blocks) only;
      reader_name = ap (λ (t : SegmentsState). t.reader_name) only;
      writer_name = ap (λ (t : SegmentsState). t.writer_name) only;
    } in
    let runs = nothing_joined p.segments.home p.segments.live c.complete.new.segments.live p.segments.writer.segments p.segments.blocks c.args.writing.draft v.own c.order.ensures c.requires.settled c.complete.ensures.runs in
    let len = same_len p.segments.live c.complete.new.segments.live runs in
    (settle_may p.control.gone p.segments c.complete.new.segments p.retired 0 v.kept same len).1

pub invariant_of-self : goal.invariant_of-self
invariant_of-self c =
    let p = c.self.inside in let v = c.self.invariant in
    let only = c.complete.ensures.segments in
    let same : SameEnds p.segments c.complete.new.segments = record {
      reader = ap (λ (t : SegmentsState). t.reader) only;
      blocks = ap (λ (t : SegmentsState). t.blocks) only;
      reader_name = ap (λ (t : SegmentsState). t.reader_name) only;
      writer_name = ap (λ (t : SegmentsState). t.writer_name) only;
    } in
    let runs = nothing_joined p.segments.home p.segments.live c.complete.new.segments.live p.segments.writer.segments p.segments.blocks c.args.writing.draft v.own c.order.ensures c.requires.settled c.complete.ensures.runs in
    let len = same_len p.segments.live c.complete.new.segments.live runs in
    let stand = settled p.control.gone p.segments c.complete.new.segments c.settle.new.segments p.retired c.settle.new.retired 0 v.kept same len c.settle.ensures in
    let control = c.end_writer-wake.ensures in
    end_held p.control c.end_writer-wake.new.self p.segments c.complete.new.segments c.settle.new.segments p.retired c.settle.new.retired c.args.code v runs same stand
    control.stands control.gone control.lent control.ended (ap (λ w. w.segments) c.complete.ensures.none_left)

pub returns : goal.returns
returns c =
    let p = c.self.inside in let v = c.self.invariant in
    let only = c.complete.ensures.segments in
    let same : SameEnds p.segments c.complete.new.segments = record {
      reader = ap (λ (t : SegmentsState). t.reader) only;
      blocks = ap (λ (t : SegmentsState). t.blocks) only;
      reader_name = ap (λ (t : SegmentsState). t.reader_name) only;
      writer_name = ap (λ (t : SegmentsState). t.writer_name) only;
    } in
    let runs = nothing_joined p.segments.home p.segments.live c.complete.new.segments.live p.segments.writer.segments p.segments.blocks c.args.writing.draft v.own c.order.ensures c.requires.settled c.complete.ensures.runs in
    let len = same_len p.segments.live c.complete.new.segments.live runs in
    let stand = settled p.control.gone p.segments c.complete.new.segments c.settle.new.segments p.retired c.settle.new.retired 0 v.kept same len c.settle.ensures in
    let control = c.end_writer-wake.ensures in
    let after : PipeHeld = record { control = c.end_writer-wake.new.self; segments = c.settle.new.segments } in
    subst (λ before. HeldAnswers before (EndWriter c.args.code ∷ []) (Woke c.end_writer-wake.result) after) c.self.view_is (record {
      kept = made_stays p.control c.end_writer-wake.new.self p.segments c.settle.new.segments control.kept (stand.ends.0 ∙ same.blocks) (stand.ends.1 ∙ same.reader_name) (stand.ends.2 ∙ same.writer_name);
      ended = control.ended;
      gone = control.gone;
      lent = control.lent;
      told = λ h holds. control.told h holds.marks;
      stands = λ h holds. end_stands p.control c.end_writer-wake.new.self p.segments c.complete.new.segments c.settle.new.segments c.settle.new.retired h c.args.code runs same stand holds (control.stands h holds.marks);
    })
