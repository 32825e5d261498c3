-- What contracts see of a pool and of its passes.
use Rattle.std.specs.Prelude.{ℕ, ◌≡◌, ◌+◌, ◌-◌, ◌<◌, ◌≤◌, List, [], ◌∷◌, length}
use Rattle.atomic_table.specs.Seated.{TableId}
use Rattle.crossbeam_queue.specs.Passes.{Pass, view}
use Rattle.seg_block.specs.declared.block.Block.{Block}
use Rattle.seg_block.specs.Words.{id_of}
use Rattle.seg_block.specs.Numbered.{times}
use Rattle.seg_pool.specs.declared.books.PassBooks.{PassBooks}
use Rattle.seg_pool.specs.Books.{AtHome, whole}
use Rattle.seg_pool.specs.Steps.{freeing, making, returning, taking}

-- what a pass of the queue knows
abbrev pub known : Pass Block PassBooks → PassBooks
known pass = view pass

pub record PoolState : Type 0 where
  pub table : TableId
  pub keep : ℕ
  pub segment : ℕ

pub record PassState : Type 0 where
  pub pool : TableId
  pub books : PassBooks

-- What a pass counts of its books at run time.
pub record Tallies (parts next limit made freed : ℕ) (v : PassBooks) : Type 0 where
  pub some_part : 0 < parts
  pub parts_are : parts ≡ v.parts
  pub next_is : next ≡ v.next
  pub limit_is : limit ≡ v.limit
  pub made_are : made ≡ length v.made
  pub freed_are : freed ≡ length v.freed
  pub few_parts : parts ≤ whole
  pub few_made : made + (limit - next) ≤ whole
  pub few_freed : freed ≤ whole
  pub rights : next ≤ limit

-- the pass is of this pool
pub record IsOf (pool : PoolState) (pass : PassState) : Type 0 where
  pub table : pass.pool ≡ pool.table
  pub kept : pass.books.keep ≡ pool.keep
  pub sized : pass.books.segment ≡ pool.segment

-- A block was rented: one that was at home, or, where none was, a new one.
pub data Rents (v : PassBooks) (id : ℕ) (w : PassBooks) : Type 0 where
  FromHome : (block : Block) (rest : List Block) → id_of block ≡ id → AtHome v (block ∷ rest) → w ≡ taking id v → Rents v id w
  MadeNew : id ≡ v.next → v.next < v.limit → AtHome v [] → w ≡ making v → Rents v id w

-- A block was given back: it is at home, where fewer than the pool keeps were, or, where that many were, freed.
pub data Gives (v : PassBooks) (id : ℕ) (w : PassBooks) : Type 0 where
  ToHome : (home : List Block) → length home < v.keep → AtHome v home → w ≡ returning id v → Gives v id w
  Freed : (home : List Block) → length home ≡ v.keep → AtHome v home → w ≡ freeing id v → Gives v id w

-- blocks with these ids were rented, one after the other
abbrev pub RentsEach : PassBooks → List ℕ → PassBooks → Type 0
RentsEach v [] w = w ≡ v
RentsEach v (id ∷ ids) w = (u : PassBooks) × Rents v id u × RentsEach u ids w

-- blocks with these ids were given back, one after the other
abbrev pub GivesEach : PassBooks → List ℕ → PassBooks → Type 0
GivesEach v [] w = w ≡ v
GivesEach v (id ∷ ids) w = (u : PassBooks) × Gives v id u × GivesEach u ids w

-- At most n blocks were rented, and all given back.
pub record GivesUp (n : ℕ) (v w : PassBooks) : Type 0 where
  pub ids : List ℕ
  pub with_all : PassBooks
  pub within : length ids ≤ n
  pub rents : RentsEach v ids with_all
  pub gives : GivesEach with_all ids w

-- these ids are out beside what was out before
pub record Adds (v : PassBooks) (ids : List ℕ) (w : PassBooks) : Type 0 where
  pub out : (id : ℕ) → times id w.out ≡ times id v.out + times id ids
  pub parts : w.parts ≡ v.parts

-- these ids are no longer out
pub record Removes (v : PassBooks) (ids : List ℕ) (w : PassBooks) : Type 0 where
  pub out : (id : ℕ) → times id w.out + times id ids ≡ times id v.out
  pub parts : w.parts ≡ v.parts
