use Rattle.std.proofs.Common.{[], ◌∷◌, ap, sym, subst}
use Rattle.pipe_core.specs.Answers.{Woke}
use Rattle.pipe_core.specs.Standing.{MayAdvance}
use Rattle.pipe_core.specs.History.{Advance}
use Rattle.pipe_state.specs.Segments.{Releases, SegmentsState}
use Rattle.pipe_state.specs.Held.{HeldAnswers, PipeHeld}
use Rattle.pipe_state.proofs.HeldLemmas.{advance_held, advance_stands, made_stays}
use Rattle.pipe_state.proofs.state.PipeState.advance.Goals as goal

pub invariant_of-self : goal.invariant_of-self
invariant_of-self c =
    let p = c.self.inside in let control = c.advance-wake.ensures in
    let released : Releases c.args.c p.segments c.release.new.self = subst (λ (s : SegmentsState). Releases c.args.c s c.release.new.self) c.agree_reader.ensures.segments c.release.ensures.state in
    advance_held p.control c.advance-wake.new.self p.segments c.release.new.self p.retired c.args.c c.args.e c.self.invariant
    (subst (λ s. MayAdvance s.control.lent c.args.c c.args.e) (sym c.self.view_is) c.requires.lent) released control.stands control.gone control.ended control.lent

pub returns-clause-answers : goal.returns-clause-answers
returns-clause-answers c =
    let p = c.self.inside in let control = c.advance-wake.ensures in
    let released : Releases c.args.c p.segments c.release.new.self = subst (λ (s : SegmentsState). Releases c.args.c s c.release.new.self) c.agree_reader.ensures.segments c.release.ensures.state in
    let kept = released.kept in
    let may = subst (λ s. MayAdvance s.control.lent c.args.c c.args.e) (sym c.self.view_is) c.requires.lent in
    let after : PipeHeld = record { control = c.advance-wake.new.self; segments = c.release.new.self } in
    subst (λ before. HeldAnswers before (Advance c.args.c c.args.e ∷ []) (Woke c.advance-wake.result) after) c.self.view_is (record {
      kept = made_stays p.control c.advance-wake.new.self p.segments c.release.new.self control.kept (ap (λ t. t.blocks) kept) (ap (λ t. t.reader_name) kept) (ap (λ t. t.writer_name) kept);
      ended = control.ended;
      gone = control.gone;
      lent = control.lent;
      told = λ h holds. control.told h holds.marks;
      stands = λ h holds. advance_stands p.control c.advance-wake.new.self p.segments c.release.new.self h c.args.c c.args.e holds may released (control.stands h holds.marks);
    })
