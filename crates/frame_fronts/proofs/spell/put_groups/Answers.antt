-- The first of four bytes.
use Rattle.std.proofs.Common.{arith, ap, ◌∙◌, ◌++◌, List, ℕ, take}
use Rattle.frame_fronts.proofs.CopyLemmas.{front_put}
use Rattle.frame_fronts.proofs.spell.put_groups.Goals as goal

pub returns-clause-put : goal.returns-clause-put
returns-clause-put c =
    let head = c.groups_of-head.result in
    front_put c.args.room.now c.copy_at.new.room head.bytes _ c.args.at head.count (omega (arith, c.requires.room)) (omega (arith, c.groups_of-head.ensures.few)) c.copy_at.ensures
    ∙ ap (λ (x : List ℕ). take c.args.at c.args.room.now ++ x) c.groups_of-head.ensures.groups
