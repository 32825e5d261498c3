-- The books of a pool, and the rule that is true between any two steps of it.
use Rattle.std.specs.Prelude.{ℕ, ◌≡◌, ◌+◌, ◌-◌, ◌^◌, ◌<◌, ◌≤◌, min, List, [], map, length}
use Rattle.std.specs.List.{All}
use mathlib.Core.Option.{some}
use lib.ListN.{get_elem?}
use Rattle.seg_block.specs.declared.block.Block.{Block}
use Rattle.seg_block.specs.Words.{id_of, size_of}
use Rattle.seg_block.specs.Numbered.{weigh, times}
use Rattle.seg_pool.specs.declared.books.PassBooks.{PassBooks}

-- how many parts all passes have together, and how many ids there are
abbrev pub whole : ℕ
whole = 2 ^ 62

abbrev pub ids_of : List Block → List ℕ
ids_of blocks = map (λ block. id_of block) blocks

abbrev pub AreOfSize : ℕ → List Block → Type 0
AreOfSize segment blocks = All (λ block. size_of block ≡ segment) blocks

-- the one pass of a new pool
abbrev pub fresh : ℕ → ℕ → PassBooks
fresh keep segment = record { keep = keep; segment = segment; parts = whole; next = 0; limit = whole; made = []; out = []; freed = [] }

-- a pass that is no more
abbrev pub spent : PassBooks
spent = record { keep = 0; segment = 0; parts = 0; next = 0; limit = 0; made = []; out = []; freed = [] }

-- a block with this id is out with the pass
abbrev pub IsOut : PassBooks → ℕ → Type 0
IsOut v id = 0 < times id v.out

-- 1 where the pass may make the block with this id, and else 0
abbrev pub may_make : ℕ → PassBooks → ℕ
may_make id v = min 1 (v.limit - id) - min 1 (v.next - id)

-- the numbers of all passes, added up
abbrev pub total : (PassBooks → ℕ) → List PassBooks → ℕ
total number passes = weigh number passes

pub record IsSpent (v : PassBooks) : Type 0 where
  pub made : v.made ≡ []
  pub out : v.out ≡ []
  pub freed : v.freed ≡ []
  pub rights : v.limit ≡ v.next

pub record IsSet (keep segment : ℕ) (v : PassBooks) : Type 0 where
  pub kept : v.keep ≡ keep
  pub sized : v.segment ≡ segment
  pub rights : v.next ≤ v.limit

-- A pass with no part has nothing, and one with a part knows the pool's numbers.
pub record IsSound (keep segment : ℕ) (v : PassBooks) : Type 0 where
  pub gone : v.parts ≡ 0 → IsSpent v
  pub set : 0 < v.parts → IsSet keep segment v

-- so it is of each pass
abbrev pub EachIn : (PassBooks → Type 0) → List PassBooks → Type 0
EachIn F passes = (k : ℕ) (v : PassBooks) → get_elem? passes k ≡ some v → F v

-- The books of a pool that has these blocks at home, and these passes.
pub record IsBalanced (home : List Block) (passes : List PassBooks) : Type 0 where
  pub keep : ℕ
  pub segment : ℕ
  pub sizes : AreOfSize segment home
  -- each id is made once at most, and by one pass
  pub once : (id : ℕ) → total (λ v. times id v.made) passes + total (may_make id) passes ≤ 1
  -- what was made is at home, out or freed, once, since that is so of each weight: of the mark of one id, and of 1, which counts
  pub placed : (weight : ℕ → ℕ) → total (λ v. weigh weight v.made) passes
      ≡ weigh weight (ids_of home) + (total (λ v. weigh weight v.out) passes + total (λ v. weigh weight v.freed) passes)
  pub parts : total (λ v. v.parts) passes ≡ whole
  pub few : total (λ v. length v.made + (v.limit - v.next)) passes ≤ whole
  pub sound : EachIn (IsSound keep segment) passes

-- At one moment the pool had just these blocks at home, and the pass had the books v.
pub record AtHome (v : PassBooks) (home : List Block) : Type 0 where
  pub passes : List PassBooks
  pub balanced : IsBalanced home passes
  pub place : ℕ
  pub there : get_elem? passes place ≡ some v

-- An id is made once at most, and where it was made it is at home, out or freed, and nowhere else.
pub record IsInOnePlace (id : ℕ) (home : List Block) (passes : List PassBooks) : Type 0 where
  pub once : total (λ v. times id v.made) passes ≤ 1
  pub placed : total (λ v. times id v.made) passes
      ≡ times id (ids_of home) + (total (λ v. times id v.out) passes + total (λ v. times id v.freed) passes)

-- The books of a pool whose one pass has the books v.
pub record KnowsAll (v : PassBooks) (home : List Block) : Type 0 where
  pub once : (id : ℕ) → times id v.made ≤ 1
  pub placed : (weight : ℕ → ℕ) → weigh weight v.made ≡ weigh weight (ids_of home) + (weigh weight v.out + weigh weight v.freed)
