-- What workers have, step by step.
use Rattle.std.proofs.Common.{◌≡◌, ◌≤◌, ◌<◌, ◌+◌, ◌-◌, ℕ, List, [], ◌∷◌, ◌++◌, length, sym, refl, ap, ◌∙◌, subst, arith, Option, Some, None}
use Rattle.std.specs.List.{All, AllZip}
use Rattle.std.specs.Vec.{vec_capacity, vec_len}
use Rattle.std.proofs.lemmas.List.{length-append, length_push}
use Rattle.crossbeam_queue.specs.Passes.{Pass, view, IsPassOf, IsSamePass}
use Rattle.crossbeam_queue.specs.declared.array_queue.Doing.{Doing}
use Rattle.crossbeam_queue.specs.declared.array_queue.Slotted.{Slotted}
use Rattle.seg_pool.specs.declared.books.PassBooks.{PassBooks}
use Rattle.seg_pool.specs.Words.{Adds, IsOf, PassState, PoolState}
use Rattle.seg_block.specs.Numbered.{times}
use Rattle.shared_work.specs.declared.placed.Placed.{Placed}
use Rattle.shared_work.specs.declared.placed.WorkerView.{WorkerView}
use Rattle.shared_work.specs.declared.workers.Worker.{Worker}
use Rattle.shared_work.specs.Tasks.{IsTaken, both, with_taken}
use Rattle.shared_work.specs.Workers.{Does, IsWorkerOf, Meets, SameWorker, Forks}
use Rattle.std.specs.declared.vec.Vec.{Vec}
use Rattle.std.specs.declared.alloc.Global.{Global}

pub adds_then : (a b c : PassBooks) → Adds a [] b → Adds b [] c → Adds a [] c
adds_then a b c one two = record {
  out = λ x. let p = one.out x in let q = two.out x in omega (arith, p, q);
  parts = two.parts ∙ one.parts;
}

pub all_zipped_more : {X Y : Type 0} (R : X → Y → Type 0) (xs : List X) (ys : List Y) (x : X) (y : Y) → AllZip R xs ys → R x y → AllZip R (xs ++ x ∷ []) (ys ++ y ∷ [])
all_zipped_more R [] [] x y each one = (one, tt)
all_zipped_more R [] (b ∷ ys) x y each one = absurd each
all_zipped_more R (a ∷ xs) [] x y each one = absurd each
all_zipped_more R (a ∷ xs) (b ∷ ys) x y each one = (each.0, all_zipped_more R xs ys x y each.1 one)

module _ {T D Q A : Type 0} (gives : T → D → Type 0) (queue : Slotted (Option (Placed T)) (Doing (Placed T) (WorkerView T)) Q A) (pool : PoolState) where
  -- a task was taken and done
  pub works_on : (first worker : Worker T D) (pass : Pass (Placed T) (WorkerView T)) (blocks : PassState) (done : Vec (Placed D) Global) (task : Placed T) (place : ℕ) (it : D)
      → IsWorkerOf gives queue pool worker × SameWorker first worker → IsSamePass worker.pass pass → IsTaken (view worker.pass) task (view pass) → IsOf pool blocks → Adds worker.blocks.books [] blocks.books
      → place ≡ task.place → vec_capacity worker.done ≤ vec_capacity done → gives task.it it → done.items ≡ worker.done.items ++ record { place = place; it = it } ∷ []
      → IsWorkerOf gives queue pool (record { pass = pass; blocks = blocks; done = done }) × SameWorker first (record { pass = pass; blocks = blocks; done = done })
  works_on first worker pass blocks done task place it known same taken of adds at room gave items =
      let is = taken.0 in (
        record {
          pass = (same.0 ∙ known.0.pass.0, same.2 ∙ known.0.pass.1);
          some_part = let p = ap (λ (v : WorkerView T). v.parts) is in let old = known.0.some_part in omega (arith, p, old);
          blocks = of;
          done = let one : Does gives task (record { place = place; it = it }) = (at, gave) in
              subst (λ (l : List (Placed D)). AllZip (Does gives) (view pass).taken l) (sym items)
              (subst (λ (v : WorkerView T). AllZip (Does gives) v.taken (worker.done.items ++ record { place = place; it = it } ∷ [])) (sym is)
              (all_zipped_more (Does gives) (view worker.pass).taken worker.done.items task (record { place = place; it = it }) known.0.done one));
        },
        record {
          parts = ap (λ (v : WorkerView T). v.parts) is ∙ known.1.parts;
          all = ap (λ (v : WorkerView T). v.all) is ∙ known.1.all;
          out = adds_then first.blocks.books worker.blocks.books blocks.books known.1.out adds;
          room = let old = known.1.room in omega (arith, old, room);
        },
      )

-- two lists that stand side by side, behind two others
pub zipped_behind : {X Y : Type 0} (R : X → Y → Type 0) (xs : List X) (ys : List Y) (vs : List X) (ws : List Y) → AllZip R xs ys → AllZip R vs ws → AllZip R (xs ++ vs) (ys ++ ws)
zipped_behind R [] [] vs ws each more = more
zipped_behind R [] (b ∷ ys) vs ws each more = absurd each
zipped_behind R (a ∷ xs) [] vs ws each more = absurd each
zipped_behind R (a ∷ xs) (b ∷ ys) vs ws each more = (each.0, zipped_behind R xs ys vs ws each.1 more)

-- a worker was split, both went on, and they met again
pub same_again : {T D : Type 0} (old left right left' right' new : Worker T D) → Forks old left right → SameWorker left left' → SameWorker right right' → Meets left' right' new → Adds old.blocks.books [] new.blocks.books → SameWorker old new
same_again old left right left' right' new forks one two meets out = record {
  parts = omega (arith, forks.left_parts, forks.right_parts, one.parts, two.parts, meets.parts);
  all = meets.all ∙ one.all ∙ forks.left_all;
  out = out;
  room = omega (arith, forks.room, one.room, meets.room);
}

zipped_length : {X Y : Type 0} (R : X → Y → Type 0) (xs : List X) (ys : List Y) → AllZip R xs ys → length xs ≡ length ys
zipped_length R [] [] each = refl
zipped_length R [] (b ∷ ys) each = absurd each
zipped_length R (a ∷ xs) [] each = absurd each
zipped_length R (a ∷ xs) (b ∷ ys) each = let rest = zipped_length R xs ys each.1 in omega (arith, rest)

-- what two workers have done has room with the first
pub fits : {T D : Type 0} (R : Placed T → Placed D → Type 0) (v u w : WorkerView T) (mine theirs : Vec (Placed D) Global) → w ≡ both v u → AllZip R v.taken mine.items → AllZip R u.taken theirs.items → length w.taken ≤ length w.all → length v.all ≤ vec_capacity mine
    → vec_len mine + vec_len theirs ≤ vec_capacity mine
fits R v u w mine theirs met one two few room =
    let a = zipped_length R v.taken mine.items one in
    let b = zipped_length R u.taken theirs.items two in
    let t = ap (λ s. length s.taken) met in
    let l = ap (λ s. length s.all) met in
    let m = length-append v.taken u.taken in
    omega (arith, a, b, t, l, m, few, room, mine.ok, theirs.ok)

module _ {T D Q A : Type 0} (gives : T → D → Type 0) (queue : Slotted (Option (Placed T)) (Doing (Placed T) (WorkerView T)) Q A) (pool : PoolState) where
  -- two workers met
  pub workers_met : (mine theirs : Worker T D) (mid pass : Pass (Placed T) (WorkerView T)) (blocks : PassState) (done : Vec (Placed D) Global)
      → IsWorkerOf gives queue pool mine → IsWorkerOf gives queue pool theirs → IsSamePass mine.pass mid → view mid ≡ both (view mine.pass) (view theirs.pass) → IsSamePass mid pass → view pass ≡ view mid
      → IsOf pool blocks → done.items ≡ mine.done.items ++ theirs.done.items → IsWorkerOf gives queue pool (record { pass = pass; blocks = blocks; done = done })
  workers_met mine theirs mid pass blocks done m t same met again is of items =
      let now = is ∙ met in
      record {
        pass = (again.0 ∙ same.0 ∙ m.pass.0, again.2 ∙ same.2 ∙ m.pass.1);
        some_part = let p = ap (λ (v : WorkerView T). v.parts) now in let old = m.some_part in omega (arith, p, old);
        blocks = of;
        done = subst (λ (l : List (Placed D)). AllZip (Does gives) (view pass).taken l) (sym items)
            (subst (λ (v : WorkerView T). AllZip (Does gives) v.taken (mine.done.items ++ theirs.done.items)) (sym now)
            (zipped_behind (Does gives) (view mine.pass).taken mine.done.items (view theirs.pass).taken theirs.done.items m.done t.done));
      }

-- one more was taken, and there is room for what comes out of it
pub one_fits : {T D : Type 0} (R : Placed T → Placed D → Type 0) (v w : WorkerView T) (task : Placed T) (done : Vec (Placed D) Global) → w ≡ with_taken task v → AllZip R v.taken done.items → length w.taken ≤ length w.all → length v.all ≤ vec_capacity done → vec_len done < vec_capacity done
one_fits R v w task done is each few room =
    let a = zipped_length R v.taken done.items each in
    let t = ap (λ s. length s.taken) is in
    let l = ap (λ s. length s.all) is in
    let m = length_push v.taken task in
    omega (arith, a, t, l, m, few, room, done.ok)

pub adds_none : (a : PassBooks) → Adds a [] a
adds_none a = record { out = λ x. omega arith; parts = refl }
