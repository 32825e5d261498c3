-- The free part is long enough already, and no longer than a segment.
use Rattle.std.proofs.Common.{◌≡◌, refl, inl, sym, ap, ◌∙◌, arith, length, Some}
use Rattle.pipe_shared.proofs.pipe.Pipe.try_room.Goals as goal

pub returns-then-hint-free-clause-granted : goal.returns-then-hint-free-clause-granted
returns-then-hint-free-clause-granted c =
    let named : c.w.inside.seat.name ≡ Some c.args.self.now.name = ap (λ w. w.seat.name) c.w.view_is ∙ c.requires.named in
    let size = (c.w.invariant.writes c.args.self.now.name named).size in
    let free = c.free_len-free.ensures in let view = ap (λ w. w.free) c.w.view_is in
    let segment : c.self.inside.options.segment ≡ c.args.self.now.name.options.segment = ap (λ o. o.segment) (sym c.self.invariant.named) ∙ ap (λ p. p.name.options.segment) c.self.view_is in
    let hint = c.max-hint.ensures in let small = c.if-hint-segment.false in let enough = c.if-hint-free.true in
    let is : c.free_len-free.result ≡ length c.args.w.now.free = free.free ∙ ap length view in let at_most = free.at_most in
    record {
      small = omega arith;
      enough = omega arith;
      at_most = omega arith;
      free = sym is;
      draft = refl;
      how = inl (omega arith, refl);
    }
