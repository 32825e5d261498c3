-- What is lent is the front of what is held.
use Rattle.std.proofs.Common.{refl, arith}
use Rattle.std.specs.Prelude.{unwrap_or}
use Rattle.std.proofs.lemmas.List.{length-take}
use Rattle.pipe_core.proofs.PipeLemmas.{lent_within, lent_is}
use Rattle.pipe_core.proofs.plain_pipe.PlainPipe.lent.Goals as goal

pub slice_bounds-result-end : goal.slice_bounds-result-end
slice_bounds-result-end c =
    let p = c.self.inside in
    let within = lent_within (record { control = p.control; bytes = p.buffer }) c.self.invariant.0 c.self.invariant.1 in
    rw (c.held.ensures, c.lent_len-len.ensures) (omega (arith, within, length-take (unwrap_or p.control.lent 0) p.buffer.held))

pub returns-clause-front : goal.returns-clause-front
returns-clause-front c = rw (← c.self.view_is, c.held.ensures, c.lent_len-len.ensures) refl

pub returns-clause-bytes : goal.returns-clause-bytes
returns-clause-bytes c h s some =
    let p = c.self.inside in
    rw (c.held.ensures, c.lent_len-len.ensures) (lent_is (record { control = p.control; bytes = p.buffer }) h (rw (← c.self.view_is) at s) (rw (← c.self.view_is) at some)).0

pub returns-clause-len : goal.returns-clause-len
returns-clause-len c =
    let p = c.self.inside in
    let within = lent_within (record { control = p.control; bytes = p.buffer }) c.self.invariant.0 c.self.invariant.1 in
    rw (← c.self.view_is, c.held.ensures, c.lent_len-len.ensures) (omega (arith, within, length-take (unwrap_or p.control.lent 0) p.buffer.held))
