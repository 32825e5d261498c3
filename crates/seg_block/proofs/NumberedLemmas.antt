-- Blocks with numbers in order.
use Rattle.std.proofs.Common.{◌≡◌, ℕ, suc, ◌+◌, ◌-◌, ◌≤◌, List, [], ◌∷◌, ◌++◌, length, map, arith}
use Rattle.seg_block.specs.declared.block.Block.{Block}
use Rattle.seg_block.specs.Words.{id_of, size_of}
use Rattle.seg_block.specs.Numbered.{AreNumbered, AreDistinct, mark, times}

pub AreNumbered-push : (first size : ℕ) (blocks : List Block) (block : Block) → AreNumbered first size blocks → id_of block ≡ first + length blocks → size_of block ≡ size
    → AreNumbered first size (blocks ++ block ∷ [])
AreNumbered-push first size [] block all number same = (omega (arith, number), same, tt)
AreNumbered-push first size (other ∷ blocks) block all number same =
    (all.0, all.1, AreNumbered-push (suc first) size blocks block all.2 (omega (arith, number)) same)

-- a number below the first isn't there, and any other once at most
once : (x first size : ℕ) (blocks : List Block) → AreNumbered first size blocks → times x (map id_of blocks) ≤ 1 - (first - x)
once x first size [] all = omega arith
once x first size (block ∷ blocks) all = let rest = once x (suc first) size blocks all.2 in omega (arith, all.0, rest)

pub differ : (first size : ℕ) (blocks : List Block) → AreNumbered first size blocks → AreDistinct (map id_of blocks)
differ first size blocks all x = let bound = once x first size blocks all in omega (arith, bound)
