-- What a worker has.
use Rattle.std.specs.Prelude.{ℕ, ◌≡◌, ◌<◌, ◌≤◌, ◌+◌, List, [], length, Option}
use Rattle.std.specs.List.{AllZip}
use Rattle.std.specs.Vec.{vec_capacity}
use Rattle.crossbeam_queue.specs.Passes.{view, IsPassOf}
use Rattle.crossbeam_queue.specs.declared.array_queue.Doing.{Doing}
use Rattle.crossbeam_queue.specs.declared.array_queue.Slotted.{Slotted}
use Rattle.seg_pool.specs.Steps.{merged, split_new, split_old}
use Rattle.seg_pool.specs.Words.{Adds, IsOf, PoolState}
use Rattle.shared_work.specs.declared.placed.Placed.{Placed}
use Rattle.shared_work.specs.declared.placed.WorkerView.{WorkerView}
use Rattle.shared_work.specs.declared.workers.Worker.{Worker}

-- what came out of a task
abbrev pub Does : {T D : Type 0} → (T → D → Type 0) → Placed T → Placed D → Type 0
Does gives task done = (done.place ≡ task.place) × gives task.it done.it

module _ {T D Q A : Type 0} (gives : T → D → Type 0) (queue : Slotted (Option (Placed T)) (Doing (Placed T) (WorkerView T)) Q A) (pool : PoolState) where
  -- It has passes of the queue and of the pool, and what came out of each task that it took.
  pub record IsWorkerOf (worker : Worker T D) : Type 0 where
    pub pass : IsPassOf queue worker.pass
    pub some_part : 0 < (view worker.pass).parts
    pub blocks : IsOf pool worker.blocks
    pub done : AllZip (Does gives) (view worker.pass).taken worker.done.items

-- It has as many parts as before, knows the same tasks, and nothing more is out with it.
pub record SameWorker {T D : Type 0} (old new : Worker T D) : Type 0 where
  pub parts : (view new.pass).parts ≡ (view old.pass).parts
  pub all : (view new.pass).all ≡ (view old.pass).all
  pub out : Adds old.blocks.books [] new.blocks.books
  pub room : vec_capacity old.done ≤ vec_capacity new.done

-- it has room for what comes out of all tasks
abbrev pub HasRoom : {T D : Type 0} → Worker T D → Type 0
HasRoom worker = length (view worker.pass).all ≤ vec_capacity worker.done

-- One worker has become two.
pub record Forks {T D : Type 0} (old left right : Worker T D) : Type 0 where
  pub left_parts : (view left.pass).parts + 1 ≡ (view old.pass).parts
  pub right_parts : (view right.pass).parts ≡ 1
  pub left_all : (view left.pass).all ≡ (view old.pass).all
  pub right_all : (view right.pass).all ≡ (view old.pass).all
  pub left_books : left.blocks.books ≡ split_old old.blocks.books
  pub right_books : right.blocks.books ≡ split_new old.blocks.books
  pub room : vec_capacity old.done ≤ vec_capacity left.done

-- Two workers have become one.
pub record Meets {T D : Type 0} (left right new : Worker T D) : Type 0 where
  pub parts : (view new.pass).parts ≡ (view left.pass).parts + (view right.pass).parts
  pub all : (view new.pass).all ≡ (view left.pass).all
  pub books : new.blocks.books ≡ merged left.blocks.books right.blocks.books
  pub room : vec_capacity left.done ≤ vec_capacity new.done
