-- Each kind of step keeps the books.
use Rattle.std.proofs.Common.{◌≡◌, ◌≢◌, ◌≤◌, ◌<◌, ◌+◌, ◌-◌, ℕ, zero, suc, List, [], ◌∷◌, ◌++◌, length, set, sym, refl, ap, ◌∙◌, subst, arith, ⊎_elim}
use Rattle.std.specs.List.{AllByRecursion}
use Rattle.std.proofs.lemmas.List.Elements.{All-append, All-cons, All-head, All-nil, All-tail}
use mathlib.Core.Option.{some}
use lib.ListN.{get_elem?}
use Rattle.crossbeam_queue.specs.Fifo.{Pushes, Pops, Forks, Merges, Learns}
use Rattle.crossbeam_queue.proofs.Lists.{at_set, at_snoc}
use Rattle.seg_block.specs.declared.block.Block.{Block}
use Rattle.seg_block.specs.Words.{id_of, size_of}
use Rattle.seg_block.specs.Numbered.{mark, times, weigh}
use Rattle.seg_pool.specs.declared.books.PassBooks.{PassBooks}
use Rattle.seg_pool.specs.Books.{AreOfSize, AtHome, EachIn, IsBalanced, IsOut, IsSet, IsSound, IsSpent, ids_of, may_make, spent, total}
use Rattle.seg_pool.specs.Steps.{Returns, Takes, freeing, making, merged, returning, split_new, split_old, taking}
use Rattle.seg_pool.proofs.WeighLemmas.{weigh-append, weigh-length, weigh_fork, weigh_set, weigh_without}

-- ---- what is so of each pass stays so

pub each_set : (F : PassBooks → Type 0) (passes : List PassBooks) (k : ℕ) (w : PassBooks) → F w → EachIn F passes → EachIn F (set passes k w)
each_set F passes k w mine all j u at = ⊎_elim (λ (x : (j ≡ k) × (w ≡ u)). subst F x.1 mine) (λ (x : (j ≢ k) × (get_elem? passes j ≡ some u)). all j u x.1) (at_set passes k j w u at)

pub each_snoc : (F : PassBooks → Type 0) (passes : List PassBooks) (n : PassBooks) → F n → EachIn F passes → EachIn F (passes ++ n ∷ [])
each_snoc F passes n new all j u at = ⊎_elim (λ (old : get_elem? passes j ≡ some u). all j u old) (λ (is : n ≡ u). subst F is new) (at_snoc passes n u j at)

pub is_spent : IsSpent spent
is_spent = record { made = refl; out = refl; freed = refl; rights = refl }

pub spent_is_sound : (keep segment : ℕ) → IsSound keep segment spent
spent_is_sound keep segment = record { gone = λ _. is_spent; set = λ some_part. absurd (omega (arith, some_part)) }

pub is_sound : (keep segment : ℕ) (v : PassBooks) → 0 < v.parts → IsSet keep segment v → IsSound keep segment v
is_sound keep segment v some_part numbers = record { gone = λ none. absurd (omega (arith, none, some_part)); set = λ _. numbers }

-- ---- a change of some passes

-- Some passes became others, and the rest stayed.
record Turns (before after old new : List PassBooks) : Type 0 where
  sums : (number : PassBooks → ℕ) → total number after + total number old ≡ total number before + total number new
  each : (keep segment : ℕ) → AllByRecursion (IsSound keep segment) new → EachIn (IsSound keep segment) before → EachIn (IsSound keep segment) after

one_turns : (passes : List PassBooks) (k : ℕ) (v w : PassBooks) → get_elem? passes k ≡ some v → Turns passes (set passes k w) (v ∷ []) (w ∷ [])
one_turns passes k v w at = record {
  sums = λ number. let s = weigh_set number passes k v w at in omega (arith, s);
  each = λ keep segment new. each_set (IsSound keep segment) passes k w new.0;
}

one_forks : (passes : List PassBooks) (k : ℕ) (v w n : PassBooks) → get_elem? passes k ≡ some v → Turns passes (set passes k w ++ n ∷ []) (v ∷ []) (w ∷ n ∷ [])
one_forks passes k v w n at = record {
  sums = λ number. let s = weigh_fork number passes k v w n at in omega (arith, s);
  each = λ keep segment new all. each_snoc (IsSound keep segment) (set passes k w) n new.1.0 (each_set (IsSound keep segment) passes k w new.0 all);
}

two_meet : (passes : List PassBooks) (k other : ℕ) (v w both : PassBooks) → get_elem? passes k ≡ some v → get_elem? (set passes k both) other ≡ some w
    → Turns passes (set (set passes k both) other spent) (v ∷ w ∷ []) (both ∷ spent ∷ [])
two_meet passes k other v w both at there = record {
  sums = λ number. let s = weigh_set number passes k v both at in let t = weigh_set number (set passes k both) other w spent there in omega (arith, s, t);
  each = λ keep segment new all. each_set (IsSound keep segment) (set passes k both) other spent new.1.0 (each_set (IsSound keep segment) passes k both new.0 all);
}

-- What balances before balances after, by what changes alone.
record Conserves (keep segment : ℕ) (home home' : List Block) (old new : List PassBooks) : Type 0 where
  sizes : AreOfSize segment home'
  once : (id : ℕ) → total (λ v. times id v.made) new + total (may_make id) new ≤ total (λ v. times id v.made) old + total (may_make id) old
  placed : (weight : ℕ → ℕ) → total (λ v. weigh weight v.made) new + (weigh weight (ids_of home) + (total (λ v. weigh weight v.out) old + total (λ v. weigh weight v.freed) old))
      ≡ total (λ v. weigh weight v.made) old + (weigh weight (ids_of home') + (total (λ v. weigh weight v.out) new + total (λ v. weigh weight v.freed) new))
  parts : total (λ v. v.parts) new ≡ total (λ v. v.parts) old
  few : total (λ v. length v.made + (v.limit - v.next)) new ≤ total (λ v. length v.made + (v.limit - v.next)) old
  sound : AllByRecursion (IsSound keep segment) new

keeps : (home home' : List Block) (before after old new : List PassBooks) (b : IsBalanced home before) → Turns before after old new → Conserves b.keep b.segment home home' old new → IsBalanced home' after
keeps home home' before after old new b turns same = record {
  keep = b.keep;
  segment = b.segment;
  sizes = same.sizes;
  once = λ id. let m = turns.sums (λ v. times id v.made) in let r = turns.sums (may_make id) in let less = same.once id in let was = b.once id in omega (arith, m, r, less, was);
  placed = λ weight.
      let m = turns.sums (λ v. weigh weight v.made) in
      let o = turns.sums (λ v. weigh weight v.out) in
      let f = turns.sums (λ v. weigh weight v.freed) in
      let is = same.placed weight in
      let was = b.placed weight in
      omega (arith, m, o, f, is, was);
  parts = let s = turns.sums (λ v. v.parts) in omega (arith, s, same.parts, b.parts);
  few = let s = turns.sums (λ v. length v.made + (v.limit - v.next)) in omega (arith, s, same.few, b.few);
  sound = turns.each b.keep b.segment same.sound b.sound;
}

-- ---- the steps

pub ids_append : (weight : ℕ → ℕ) (home : List Block) (block : Block) → weigh weight (ids_of (home ++ block ∷ [])) ≡ weigh weight (ids_of home) + weight (id_of block)
ids_append weight [] block = omega arith
ids_append weight (other ∷ home) block = let rest = ids_append weight home block in omega (arith, rest)

-- a pass with something out has a part
pub has_part : (home : List Block) (passes : List PassBooks) (k : ℕ) (v : PassBooks) (id : ℕ) → IsBalanced home passes → get_elem? passes k ≡ some v → IsOut v id → 0 < v.parts
has_part home passes k v id balanced at mine = part v.parts refl
  where
    part : (p : ℕ) → v.parts ≡ p → 0 < v.parts
    part zero none = let is = ap (times id) ((balanced.sound k v at).gone none).out in absurd (omega (arith, is, mine))
    part (suc p) is = omega (arith, is)

-- a block comes home
pub returns : (n k : ℕ) (v : PassBooks) (block : Block) → n ≡ v.keep → size_of block ≡ v.segment → IsOut v (id_of block) → Pushes IsBalanced n k v block (Returns v block)
returns n k v block kept size mine home passes room balanced at =
    let w : PassBooks = returning (id_of block) v in
    let some_part : 0 < v.parts = has_part home passes k v (id_of block) balanced at mine in
    let numbers : IsSet balanced.keep balanced.segment v = (balanced.sound k v at).set some_part in
    let same : Conserves balanced.keep balanced.segment home (home ++ block ∷ []) (v ∷ []) (w ∷ []) = record {
      sizes = All-append (λ b. size_of b ≡ balanced.segment) home (block ∷ []) balanced.sizes
          (All-cons (λ b. size_of b ≡ balanced.segment) block [] (size ∙ numbers.sized) (All-nil (λ b. size_of b ≡ balanced.segment)));
      once = λ id. omega arith;
      placed = λ weight. let less = weigh_without weight (id_of block) v.out mine in let more = ids_append weight home block in omega (arith, less, more);
      parts = refl;
      few = omega arith;
      sound = (is_sound balanced.keep balanced.segment w some_part (record { kept = numbers.kept; sized = numbers.sized; rights = numbers.rights }), tt);
    } in (
      w,
      keeps home (home ++ block ∷ []) passes (set passes k w) (v ∷ []) (w ∷ []) balanced (one_turns passes k v w at) same,
      (refl, (home, subst (λ (m : ℕ). length home < m) kept room, record { passes = passes; balanced = balanced; place = k; there = at })),
    )

-- a block leaves home
pub takes : (k : ℕ) (v : PassBooks) → 0 < v.parts → Pops IsBalanced k v (Takes v)
takes k v some_part block home passes balanced at =
    let w : PassBooks = taking (id_of block) v in
    let numbers : IsSet balanced.keep balanced.segment v = (balanced.sound k v at).set some_part in
    let same : Conserves balanced.keep balanced.segment (block ∷ home) home (v ∷ []) (w ∷ []) = record {
      sizes = All-tail (λ b. size_of b ≡ balanced.segment) block home balanced.sizes;
      once = λ id. omega arith;
      placed = λ weight. let more = weigh-append weight v.out (id_of block ∷ []) in omega (arith, more);
      parts = refl;
      few = omega arith;
      sound = (is_sound balanced.keep balanced.segment w some_part (record { kept = numbers.kept; sized = numbers.sized; rights = numbers.rights }), tt);
    } in (
      w,
      keeps (block ∷ home) home passes (set passes k w) (v ∷ []) (w ∷ []) balanced (one_turns passes k v w at) same,
      (refl, All-head (λ b. size_of b ≡ balanced.segment) block home balanced.sizes ∙ sym numbers.sized, (home, record { passes = passes; balanced = balanced; place = k; there = at })),
    )

pub looks : (k : ℕ) (v : PassBooks) → Learns IsBalanced k v (AtHome v)
looks k v home passes balanced at = record { passes = passes; balanced = balanced; place = k; there = at }

-- a pass makes a block
pub makes : (k : ℕ) (v : PassBooks) → 0 < v.parts → v.next < v.limit → Forks IsBalanced k v (making v) spent
makes k v some_part right home passes balanced at =
    let w : PassBooks = making v in
    let numbers : IsSet balanced.keep balanced.segment v = (balanced.sound k v at).set some_part in
    let same : Conserves balanced.keep balanced.segment home home (v ∷ []) (w ∷ spent ∷ []) = record {
      sizes = balanced.sizes;
      once = λ id. let more = weigh-append (mark id) v.made (v.next ∷ []) in omega (arith, more, right);
      placed = λ weight. let made = weigh-append weight v.made (v.next ∷ []) in let out = weigh-append weight v.out (v.next ∷ []) in omega (arith, made, out);
      parts = omega arith;
      few = let more = weigh-append (λ x. 1) v.made (v.next ∷ []) in omega (arith, more, weigh-length v.made, weigh-length w.made, right);
      sound = (is_sound balanced.keep balanced.segment w some_part (record { kept = numbers.kept; sized = numbers.sized; rights = omega (arith, right) }), (spent_is_sound balanced.keep balanced.segment, tt));
    } in
    keeps home home passes (set passes k w ++ spent ∷ []) (v ∷ []) (w ∷ spent ∷ []) balanced (one_forks passes k v w spent at) same

-- a pass frees a block
pub frees : (id k : ℕ) (v : PassBooks) → 0 < v.parts → IsOut v id → Forks IsBalanced k v (freeing id v) spent
frees id k v some_part mine home passes balanced at =
    let w : PassBooks = freeing id v in
    let numbers : IsSet balanced.keep balanced.segment v = (balanced.sound k v at).set some_part in
    let same : Conserves balanced.keep balanced.segment home home (v ∷ []) (w ∷ spent ∷ []) = record {
      sizes = balanced.sizes;
      once = λ x. omega arith;
      placed = λ weight. let less = weigh_without weight id v.out mine in let more = weigh-append weight v.freed (id ∷ []) in omega (arith, less, more);
      parts = omega arith;
      few = omega arith;
      sound = (is_sound balanced.keep balanced.segment w some_part (record { kept = numbers.kept; sized = numbers.sized; rights = numbers.rights }), (spent_is_sound balanced.keep balanced.segment, tt));
    } in
    keeps home home passes (set passes k w ++ spent ∷ []) (v ∷ []) (w ∷ spent ∷ []) balanced (one_forks passes k v w spent at) same

-- a pass gives a new one a share
pub shares : (k : ℕ) (v : PassBooks) → 1 < v.parts → Forks IsBalanced k v (split_old v) (split_new v)
shares k v parts home passes balanced at =
    let w : PassBooks = split_old v in
    let n : PassBooks = split_new v in
    let numbers : IsSet balanced.keep balanced.segment v = (balanced.sound k v at).set (omega (arith, parts)) in
    let rights = numbers.rights in
    let same : Conserves balanced.keep balanced.segment home home (v ∷ []) (w ∷ n ∷ []) = record {
      sizes = balanced.sizes;
      once = λ id. omega (arith, rights);
      placed = λ weight. omega arith;
      parts = omega arith;
      few = omega (arith, rights);
      sound = (
        is_sound balanced.keep balanced.segment w (omega (arith, parts)) (record { kept = numbers.kept; sized = numbers.sized; rights = omega (arith, rights) }),
        (is_sound balanced.keep balanced.segment n (omega (arith, parts)) (record { kept = numbers.kept; sized = numbers.sized; rights = omega (arith, rights) }), tt),
      );
    } in
    keeps home home passes (set passes k w ++ n ∷ []) (v ∷ []) (w ∷ n ∷ []) balanced (one_forks passes k v w n at) same

-- a pass takes in another
pub merges : (k : ℕ) (v : PassBooks) (other : ℕ) (w : PassBooks) → 0 < v.parts → Merges IsBalanced k v other w (merged v w) spent
merges k v other w some_part home passes balanced at apart there =
    let both : PassBooks = merged v w in
    let numbers : IsSet balanced.keep balanced.segment v = (balanced.sound k v at).set some_part in
    let same : Conserves balanced.keep balanced.segment home home (v ∷ w ∷ []) (both ∷ spent ∷ []) = record {
      sizes = balanced.sizes;
      once = λ id. let more = weigh-append (mark id) v.made w.made in omega (arith, more);
      placed = λ weight. let made = weigh-append weight v.made w.made in let out = weigh-append weight v.out w.out in let freed = weigh-append weight v.freed w.freed in omega (arith, made, out, freed);
      parts = omega arith;
      few = let more = weigh-append (λ x. 1) v.made w.made in omega (arith, more, weigh-length v.made, weigh-length w.made, weigh-length both.made);
      sound = (is_sound balanced.keep balanced.segment both (omega (arith, some_part)) (record { kept = numbers.kept; sized = numbers.sized; rights = numbers.rights }), (spent_is_sound balanced.keep balanced.segment, tt));
    } in
    keeps home home passes (set (set passes k both) other spent) (v ∷ w ∷ []) (both ∷ spent ∷ []) balanced (two_meet passes k other v w both at there) same
