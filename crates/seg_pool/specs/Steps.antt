-- What each step of a pool does to the books of the pass that makes it.
use Rattle.std.specs.Prelude.{ℕ, ◌≡◌, ◌+◌, ◌-◌, ◌/◌, ◌^◌, ◌<◌, ◌==◌, ◌++◌, min, List, [], ◌∷◌, length, if◌then◌else◌}
use Rattle.seg_block.specs.declared.block.Block.{Block}
use Rattle.seg_block.specs.Words.{id_of, size_of}
use Rattle.seg_pool.specs.declared.books.PassBooks.{PassBooks}
use Rattle.seg_pool.specs.Books.{AtHome}

-- without the first x
abbrev pub without : ℕ → List ℕ → List ℕ
without x [] = []
without x (y ∷ ys) = if y == x then ys else y ∷ without x ys

abbrev pub taking : ℕ → PassBooks → PassBooks
taking id v = record v { out = v.out ++ id ∷ [] }

abbrev pub making : PassBooks → PassBooks
making v = record v { next = v.next + 1; made = v.made ++ v.next ∷ []; out = v.out ++ v.next ∷ [] }

abbrev pub returning : ℕ → PassBooks → PassBooks
returning id v = record v { out = without id v.out }

abbrev pub freeing : ℕ → PassBooks → PassBooks
freeing id v = record v { out = without id v.out; freed = v.freed ++ id ∷ [] }

-- a block left home
abbrev pub Takes : PassBooks → Block → PassBooks → Type 0
Takes v block w = (w ≡ taking (id_of block) v) × (size_of block ≡ v.segment) × ((rest : List Block) × AtHome v (block ∷ rest))

-- a block came home, where fewer than the pool keeps were
abbrev pub Returns : PassBooks → Block → PassBooks → Type 0
Returns v block w = (w ≡ returning (id_of block) v) × ((home : List Block) × (length home < v.keep) × AtHome v home)

-- how many of n parts or ids a new pass gets
abbrev pub share_of : ℕ → ℕ
share_of n = min (n / 2) (2 ^ 40)

-- what a pass keeps that is split, and what the new one has
abbrev pub split_old : PassBooks → PassBooks
split_old v = record v { parts = v.parts - share_of v.parts; limit = v.limit - share_of (v.limit - v.next) }

abbrev pub split_new : PassBooks → PassBooks
split_new v = record v { parts = share_of v.parts; next = v.limit - share_of (v.limit - v.next); made = []; out = []; freed = [] }

-- the second pass was taken into the first, and its ids that weren't made never will be
abbrev pub merged : PassBooks → PassBooks → PassBooks
merged v w = record v { parts = v.parts + w.parts; made = v.made ++ w.made; out = v.out ++ w.out; freed = v.freed ++ w.freed }
