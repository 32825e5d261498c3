-- The window begins at the front of the room, and all of it is free.
use Rattle.std.proofs.Common.{◌≡◌, ◌*◌, ◌∙◌, ℕ, ap, replicate, rules}
use Rattle.pipe_core.proofs.BufferLemmas.{made}
use Rattle.pipe_core.proofs.buffer.Buffer.make.Goals as goal

pub returns : goal.returns
returns c =
    let room : c.in_ok-vec.field-0.items ≡ replicate c.in-Some.size 0 = search rules in
    let size : c.in-Some.size ≡ c.args.capacity * 2 = search rules in
    made c.args.capacity _ (room ∙ ap (λ (n : ℕ). replicate n 0) size)
