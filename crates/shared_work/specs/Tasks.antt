-- Tasks in a queue, the workers that take them, and the rule that is true between any two steps of them.
use Rattle.std.specs.Prelude.{ℕ, ◌≡◌, ◌+◌, ◌-◌, ◌<◌, min, List, [], ◌∷◌, ◌++◌, length, slice_get, Option, Some}
use Rattle.std.specs.List.{All}
use mathlib.Core.Option.{some}
use lib.ListN.{get_elem?}
use Rattle.seg_block.specs.Numbered.{mark, weigh}
use Rattle.shared_work.specs.declared.placed.Placed.{Placed}
use Rattle.shared_work.specs.declared.placed.WorkerView.{WorkerView}

-- how many parts all workers have together
abbrev pub whole : ℕ
whole = 1024

-- 1 below n, and else 0
abbrev pub below : ℕ → ℕ → ℕ
below i n = min 1 (n - i)

module _ {T : Type 0} where
  -- how many of these have the place i
  abbrev pub count : ℕ → List (Placed T) → ℕ
  count i xs = weigh (λ x. mark i x.place) xs

  -- the numbers of all workers, added up
  abbrev pub total : (WorkerView T → ℕ) → List (WorkerView T) → ℕ
  total number workers = weigh number workers

  -- it is the task of its place
  abbrev pub IsOfPlace : List T → Placed T → Type 0
  IsOfPlace all x = slice_get all x.place ≡ Some x.it

  abbrev pub view_with : ℕ → List T → List (Placed T) → WorkerView T
  view_with parts all taken = record { parts = parts; all = all; taken = taken }

  -- a worker that is no more
  abbrev pub gone : WorkerView T
  gone = view_with 0 [] []

  -- the one worker of a new queue
  abbrev pub first_view : WorkerView T
  first_view = view_with whole [] []

  -- The worker knows the tasks, and has taken some of them, each at its place.
  pub record Knows (all : List T) (v : WorkerView T) : Type 0 where
    pub knows : v.all ≡ all
    pub places : All (IsOfPlace all) v.taken

  -- Each task is in the queue or was taken by one worker, and once.
  pub record IsSharedOut (items : List (Placed T)) (workers : List (WorkerView T)) : Type 0 where
    pub all : List T
    pub parts : total (λ v. v.parts) workers ≡ whole
    pub places : All (IsOfPlace all) items
    pub once : (i : ℕ) → count i items + total (λ v. count i v.taken) workers ≡ below i (length all)
    pub lengths : length items + total (λ v. length v.taken) workers ≡ length all
    pub idle : (k : ℕ) (v : WorkerView T) → get_elem? workers k ≡ some v → v.parts ≡ 0 → v.taken ≡ []
    pub knows : (k : ℕ) (v : WorkerView T) → get_elem? workers k ≡ some v → 0 < v.parts → Knows all v

  -- At one moment the queue had just these tasks, and the worker knew v.
  pub record AtMoment (v : WorkerView T) (items : List (Placed T)) : Type 0 where
    pub workers : List (WorkerView T)
    pub shared : IsSharedOut items workers
    pub place : ℕ
    pub there : get_elem? workers place ≡ some v

  -- ---- what each step does to what the worker knows

  abbrev pub with_task : Placed T → WorkerView T → WorkerView T
  with_task x v = record v { all = v.all ++ x.it ∷ [] }

  abbrev pub with_taken : Placed T → WorkerView T → WorkerView T
  with_taken x v = record v { taken = v.taken ++ x ∷ [] }

  abbrev pub IsTaken : WorkerView T → Placed T → WorkerView T → Type 0
  IsTaken v x w = (w ≡ with_taken x v) × IsOfPlace v.all x

  -- what a worker keeps that is forked, and what the new one has
  abbrev pub forked : WorkerView T → WorkerView T
  forked v = record v { parts = v.parts - 1 }

  abbrev pub new_worker : WorkerView T → WorkerView T
  new_worker v = view_with 1 v.all []

  -- the second worker was taken in by the first
  abbrev pub both : WorkerView T → WorkerView T → WorkerView T
  both v w = record v { parts = v.parts + w.parts; taken = v.taken ++ w.taken }

  -- All tasks were taken, each once.
  pub record AreTaken (all : List T) (taken : List (Placed T)) : Type 0 where
    pub places : All (IsOfPlace all) taken
    pub once : (i : ℕ) → count i taken ≡ below i (length all)
    pub lengths : length taken ≡ length all

-- it lies in the slot of its place
abbrev pub Lies : {D : Type 0} → List (Option D) → Placed D → Type 0
Lies slots p = slice_get slots p.place ≡ Some (Some p.it)
