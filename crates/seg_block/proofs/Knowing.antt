-- What is known of a parting can be had twice. Assumes `Logic`.
use Rattle.std.proofs.Common.{ℕ, List, [], ◌∷◌}
use seplogic.Ra.Ura.{Ura}
use base.Logic.{ent, sep}
use base.Growing.{at_least}
use denote.RawPtr.{Ptr}
use types.Logic.{Logic, sem}
use types.Growing.{at_least_dup}
use types.Kit.{‵, ◌⊛◌, ◌$◌, ◌∵◌, !, qed, move, split, fsplit, fjoin, use1, done}
use Rattle.seg_block.specs.Rule.{Names, log_order, known_owns}

module _ {M : Type 1} {𝓤 : Ura M} (𝓛 : Logic 𝓤) (base : Ptr) (z : Names) (log first : List ℕ) where
  pub known_twice : ent 𝓤 (sem 𝓛 (known_owns base z log first)) (sep 𝓤 (sem 𝓛 (known_owns base z log first)) (sem 𝓛 (known_owns base z log first)))
  known_twice = let one = at_least log_order z.log log in let two = at_least log_order z.first first in
      qed 𝓛 (‵ (known_owns base z log first) ∷ []) ∵ fsplit ! $ use1 𝓛 (‵ one ⊛ ‵ one) (at_least_dup log_order 𝓛 z.log log) $ split ! $
      move ! (2 ∷ []) $ use1 𝓛 (‵ two ⊛ ‵ two) (at_least_dup log_order 𝓛 z.first first) $ split ! $
      move ! (2 ∷ 0 ∷ []) $ fjoin ! $ move ! (2 ∷ 1 ∷ []) $ fjoin ! $ done !
