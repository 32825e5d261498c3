use Rattle.std.proofs.Common.{◌≡◌, ◌≤◌, ◌+◌, ◌-◌, length, ap, sym, subst, ◌∙◌, arith}
use Rattle.std.specs.Prelude.{IsNone}
use Rattle.pipe_state.specs.Released.{bytes_in}
use Rattle.pipe_state.specs.Segments.{Releases, SegmentsState}
use Rattle.pipe_state.specs.Held.{all_fetched_in}
use Rattle.pipe_state.proofs.HeldLemmas.{given_up, held_here, reader_end_held, released_filled}
use Rattle.pipe_state.proofs.state.PipeState.end_reader.Goals as goal

pub release-requires-clause-within : goal.release-requires-clause-within
release-requires-clause-within c =
    let p = c.self.inside in
    let none : IsNone p.control.gone = subst (λ s. IsNone s.control.gone) (sym c.self.view_is) c.requires.attended in
    let held = held_here p.control p.segments p.retired c.self.invariant none in
    let chain = c.fetch.ensures.chain ∙ ap (λ (t : SegmentsState). t.reader) c.fetch.ensures.state in
    let skip = ap (λ r. r.skip) chain in let bytes = ap (λ r. length (bytes_in r.segments)) chain in
    omega arith

pub invariant_of-self : goal.invariant_of-self
invariant_of-self c =
    let p = c.self.inside in let control = c.end_reader-wake.ensures in
    let none : IsNone p.control.gone = subst (λ s. IsNone s.control.gone) (sym c.self.view_is) c.requires.attended in
    let held = held_here p.control p.segments p.retired c.self.invariant none in
    let left = c.committed.result - c.consumed.result in
    let all : p.segments.reader.skip + left ≡ length (bytes_in p.segments.live) = (let a = c.committed.ensures in let b = c.consumed.ensures in omega arith) in
    let released : Releases left (all_fetched_in p.segments) c.release.new.self = subst (λ before. Releases left before c.release.new.self) c.fetch.ensures.state c.release.ensures.state in
    let kept = released.kept in
    let room : length p.segments.blocks ≤ c.release.new.reading.chain.capacity =
    (let r = c.requires.room in let blocks = ap (λ s. length s.segments.blocks) c.self.view_is in let a = c.fetch.ensures.capacity in let b = c.release.ensures.capacity in omega arith) in
    reader_end_held p.control c.end_reader-wake.new.self p.segments c.release.new.self p.retired c.release.new.reading c.args.code c.self.invariant
    (given_up p.segments c.release.new.self c.args.reading c.release.new.reading left all released c.release.ensures.pair room)
    (ap (λ (t : SegmentsState). t.blocks) kept) (ap (λ (t : SegmentsState). t.writer) kept)
    (released_filled left p.segments.writer.hint (all_fetched_in p.segments) c.release.new.self released) control.stands control.gone control.lent control.ended
