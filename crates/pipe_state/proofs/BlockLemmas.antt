-- Blocks with numbers in order.
use Rattle.std.proofs.Common.{◌≡◌, ℕ, suc, List, [], ◌∷◌, refl, ap}
use Rattle.std.specs.Prelude.{map}
use Rattle.seg_block.specs.Numbered.{AreNumbered}
use Rattle.seg_block.specs.Words.{id_of}
use Rattle.seg_block.specs.declared.block.Block.{Block}
use Rattle.pipe_state.specs.Released.{BlockName, names_of}
use Rattle.pipe_state.specs.Segments.{AreSized}

pub ids_of_names : (blocks : List Block) → map (λ (b : BlockName). b.id) (names_of blocks) ≡ map id_of blocks
ids_of_names [] = refl
ids_of_names (b ∷ blocks) = ap (λ l. id_of b ∷ l) (ids_of_names blocks)

pub numbered_sized : (first size : ℕ) (blocks : List Block) → AreNumbered first size blocks → AreSized size (names_of blocks)
numbered_sized first size [] all = tt
numbered_sized first size (b ∷ blocks) all = (all.1, numbered_sized (suc first) size blocks all.2)
