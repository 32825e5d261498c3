-- Blocks with numbers in order, and how often a number is there.
use Rattle.std.specs.Prelude.{◌≡◌, ℕ, suc, ◌+◌, ◌-◌, ◌≤◌, List, [], ◌∷◌}
use Rattle.seg_block.specs.declared.block.Block.{Block}
use Rattle.seg_block.specs.Words.{id_of, size_of}

-- the blocks have the numbers from `first` on, and one size
abbrev pub AreNumbered : ℕ → ℕ → List Block → Type 0
AreNumbered first size [] = Unit {0}
AreNumbered first size (block ∷ blocks) = (id_of block ≡ first) × (size_of block ≡ size) × AreNumbered (suc first) size blocks

-- the weights of some, added up
abbrev pub weigh : {X : Type 0} → (X → ℕ) → List X → ℕ
weigh {X} weight [] = 0
weigh {X} weight (x ∷ xs) = weight x + weigh weight xs

-- 1 for this number, and 0 for any other
abbrev pub mark : ℕ → ℕ → ℕ
mark x y = 1 - ((x - y) + (y - x))

-- how often a number is among some
abbrev pub times : ℕ → List ℕ → ℕ
times x xs = weigh (mark x) xs

-- none of these is there twice
abbrev pub AreDistinct : List ℕ → Type 0
AreDistinct xs = (x : ℕ) → times x xs ≤ 1
