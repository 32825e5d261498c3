-- A span more that was compared.
use Rattle.std.proofs.Common.{◌≡◌, take, length, min, refl}
use Rattle.span_seq.specs.Sequence.{bytes}
use Rattle.span_seq.proofs.SpanLemmas.{compare_step}
use Rattle.span_seq.proofs.sequence.Sequence.starts_with.Goals as goal

pub loop-rest-preserved : goal.loop-rest-preserved
loop-rest-preserved g c =
    let first = c.in-Some.first.now in
    let left = c.loop-rest.left.now in
    let match = c.in-Some-behind_match.ensures in
    compare_step (take (length c.args.wanted.now) (bytes c.args.self.now) ≡ c.args.wanted.now) (bytes c.loop-rest.rest) first (bytes c.in-Some.behind) left
    c.in-Some-behind_match.later.now (min (length first) (length left)) refl (match.agree.0 refl) c.in-Some.ensures.bytes match.rest c.loop-rest.invariant
