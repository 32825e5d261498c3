-- What is known can be had twice, so a `&` holds it too. Assumes `Logic`.
use mathlib.Core.List.{[], ◌∷◌}
use base.Logic.{sep, wand, snd∗, apply∗}
use base.Fml.{fbor}
use base.Before.{before}
use types.Logic.{sem, lfts}
use types.Kit.{‵, raw, ◌⊛◌, later, ◌$◌, ◌∵◌, !, qed, keep, move, use1, use2, split, await, updating, now, done}
use denote.Struct.Lending.{of_Lends}
use Rattle.seg_block.specs.contracts.known.Known as known
use Rattle.seg_block.proofs.Knowing.{known_twice}
use Rattle.seg_block.proofs.known.Known.TheLaw.Statement.{statement}

pub shares : statement
shares =
    of_Lends known.struct known.the_codes known.the_heap known.the_lent
    (λ d p. record {
      contraction = λ M 𝓤 𝓛 _. known_twice 𝓛 d.base d.names d.log d.first;
      mono = λ M 𝓤 𝓛 κ' κ. snd∗ 𝓤 (sem 𝓛 (before κ' κ)) (sem 𝓛 (known.the_heap d));
    })
    tt (λ M 𝓤 𝓛 d p κ ts inc sp.
    let Held = known.the_heap d in
    let back = 𝓛.H.⇛ (sep 𝓤 (𝓛.A.bor κ Held) (lfts 𝓛 ts)) in
    qed 𝓛 (‵ (fbor κ Held) ∷ raw (lfts 𝓛 ts) ∷ []) ∵ updating ! $
    use2 𝓛 (later (‵ Held ⊛ raw (wand 𝓤 (sem 𝓛 Held) back))) (𝓛.more.bor_acc_by κ ts Held sp) $ await ! tt $ split ! $
    use1 𝓛 (‵ Held ⊛ ‵ Held) (known_twice 𝓛 d.base d.names d.log d.first) $ split ! $ move ! (0 ∷ 2 ∷ []) $
    use2 𝓛 (later (‵ (fbor κ Held) ⊛ raw (lfts 𝓛 ts))) (apply∗ 𝓤 (sem 𝓛 Held) back) $ await ! tt $ split ! $ keep ! (2 ∷ 1 ∷ []) $ now ! $ done !)
