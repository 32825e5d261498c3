use Rattle.std.proofs.Common.{[], ◌∷◌, ap, sym, subst, ◌∙◌}
use Rattle.std.specs.Prelude.{IsNone}
use Rattle.pipe_core.specs.Answers.{Flushed}
use Rattle.pipe_core.specs.History.{Commit}
use Rattle.pipe_state.specs.Segments.{SegmentsState}
use Rattle.pipe_state.specs.Held.{HeldAnswers, PipeHeld}
use Rattle.pipe_state.proofs.HeldLemmas.{SameEnds, commit_held, commit_stands, committed_len, made_stays, settle_may, settled}
use Rattle.pipe_state.proofs.state.PipeState.commit.Goals as goal

pub settle-requires-clause-within : goal.settle-requires-clause-within
settle-requires-clause-within c =
    let p = c.self.inside in let v = c.self.invariant in let w = c.args.writing.now in
    let only = c.commit-in-Ok.ensures.segments in
    let same : SameEnds p.segments c.commit-in-Ok.new.segments = record {
      reader = ap (λ (t : SegmentsState). t.reader) only;
      blocks = ap (λ (t : SegmentsState). t.blocks) only;
      reader_name = ap (λ (t : SegmentsState). t.reader_name) only;
      writer_name = ap (λ (t : SegmentsState). t.writer_name) only;
    } in
    let len = committed_len p.segments.live c.commit-in-Ok.new.segments.live w.draft c.draft_len-drafted.result c.commit-in-Ok.ensures.runs c.draft_len-drafted.ensures in
    (settle_may p.control.gone p.segments c.commit-in-Ok.new.segments p.retired c.draft_len-drafted.result v.kept same len).1

pub invariant_of-self : goal.invariant_of-self
invariant_of-self c =
    let p = c.self.inside in let v = c.self.invariant in let w = c.args.writing.now in
    let only = c.commit-in-Ok.ensures.segments in
    let same : SameEnds p.segments c.commit-in-Ok.new.segments = record {
      reader = ap (λ (t : SegmentsState). t.reader) only;
      blocks = ap (λ (t : SegmentsState). t.blocks) only;
      reader_name = ap (λ (t : SegmentsState). t.reader_name) only;
      writer_name = ap (λ (t : SegmentsState). t.writer_name) only;
    } in
    let len = committed_len p.segments.live c.commit-in-Ok.new.segments.live w.draft c.draft_len-drafted.result c.commit-in-Ok.ensures.runs c.draft_len-drafted.ensures in
    let stand = settled p.control.gone p.segments c.commit-in-Ok.new.segments c.settle.new.segments p.retired c.settle.new.retired c.draft_len-drafted.result v.kept same len c.settle.ensures in
    let control = c.in-Ok.ensures.answers w.draft (sym c.draft_len-drafted.ensures) in
    commit_held p.control c.commit.new.self p.segments c.commit-in-Ok.new.segments c.settle.new.segments p.retired c.settle.new.retired w.draft v c.is_full.ensures c.commit-in-Ok.ensures.runs same stand
    control.stands control.gone control.lent (subst (λ t. IsNone t.control.ended) (sym c.self.view_is) c.requires.going) control.ended c.commit-in-Ok.ensures.filled

pub returns-in-Ok-clause-answers : goal.returns-in-Ok-clause-answers
returns-in-Ok-clause-answers c =
    let p = c.self.inside in let v = c.self.invariant in let w = c.args.writing.now in
    let only = c.commit-in-Ok.ensures.segments in
    let same : SameEnds p.segments c.commit-in-Ok.new.segments = record {
      reader = ap (λ (t : SegmentsState). t.reader) only;
      blocks = ap (λ (t : SegmentsState). t.blocks) only;
      reader_name = ap (λ (t : SegmentsState). t.reader_name) only;
      writer_name = ap (λ (t : SegmentsState). t.writer_name) only;
    } in
    let len = committed_len p.segments.live c.commit-in-Ok.new.segments.live w.draft c.draft_len-drafted.result c.commit-in-Ok.ensures.runs c.draft_len-drafted.ensures in
    let stand = settled p.control.gone p.segments c.commit-in-Ok.new.segments c.settle.new.segments p.retired c.settle.new.retired c.draft_len-drafted.result v.kept same len c.settle.ensures in
    let control = c.in-Ok.ensures.answers w.draft (sym c.draft_len-drafted.ensures) in
    let after : PipeHeld = record { control = c.commit.new.self; segments = c.settle.new.segments } in
    subst (λ before. HeldAnswers before (Commit w.draft ∷ []) (Flushed c.in-Ok.answer.0 c.in-Ok.answer.1) after) c.self.view_is (record {
      kept = made_stays p.control c.commit.new.self p.segments c.settle.new.segments control.kept (stand.ends.0 ∙ same.blocks) (stand.ends.1 ∙ same.reader_name) (stand.ends.2 ∙ same.writer_name);
      ended = control.ended;
      gone = control.gone;
      lent = control.lent;
      told = λ h holds. control.told h holds.marks;
      stands = λ h holds. commit_stands p.control c.commit.new.self p.segments c.commit-in-Ok.new.segments c.settle.new.segments c.settle.new.retired h w.draft holds c.is_full.ensures c.commit-in-Ok.ensures.runs same stand (control.stands h holds.marks);
    })
