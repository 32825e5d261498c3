-- What a pass knows of a moment: of itself, and with all parts of the pool.
use Rattle.std.proofs.Common.{◌≡◌, ◌≤◌, ◌<◌, ◌+◌, ◌-◌, ℕ, zero, suc, List, [], ◌∷◌, ◌++◌, length, set, sym, refl, ap, subst, arith}
use Rattle.std.specs.List.{All}
use Rattle.std.proofs.lemmas.List.Elements.{All-nil}
use mathlib.Core.Option.{some, some-injective, some-ne-none}
use lib.ListN.{get_elem?}
use Rattle.crossbeam_queue.specs.Fifo.{Forks}
use Rattle.seg_block.specs.declared.block.Block.{Block}
use Rattle.seg_block.specs.Words.{id_of, size_of}
use Rattle.seg_block.specs.Numbered.{AreDistinct, mark, times, weigh}
use Rattle.seg_pool.specs.declared.books.PassBooks.{PassBooks}
use Rattle.seg_pool.specs.Books.{AtHome, EachIn, IsBalanced, IsInOnePlace, IsOut, IsSound, IsSpent, KnowsAll, fresh, ids_of, may_make, spent, total, whole}
use Rattle.seg_pool.proofs.WeighLemmas.{weigh-append, weigh-length, weigh_fork, weigh_has, weigh_set, weigh_zero}
use Rattle.seg_pool.proofs.StepLemmas.{each_set, each_snoc, is_sound, is_spent}

-- ---- any pass

pub in_one_place : (home : List Block) (passes : List PassBooks) → IsBalanced home passes → (id : ℕ) → IsInOnePlace id home passes
in_one_place home passes balanced id = record { once = let o = balanced.once id in omega (arith, o); placed = balanced.placed (mark id) }

-- an id is out once at most
pub are_distinct : (v : PassBooks) (home : List Block) → AtHome v home → AreDistinct v.out
are_distinct v home moment x =
    let out = weigh_has (λ u. times x u.out) moment.passes moment.place v moment.there in
    let is = in_one_place home moment.passes moment.balanced x in
    omega (arith, out, is.once, is.placed)

-- what is at home is out with nobody
pub home_is_not_out : (v : PassBooks) (block : Block) (rest : List Block) (moment : AtHome v (block ∷ rest)) (k : ℕ) (w : PassBooks) → get_elem? moment.passes k ≡ some w → times (id_of block) w.out ≡ 0
home_is_not_out v block rest moment k w at =
    let out = weigh_has (λ u. times (id_of block) u.out) moment.passes k w at in
    let is = in_one_place (block ∷ rest) moment.passes moment.balanced (id_of block) in
    omega (arith, out, is.once, is.placed)

-- nor is what may be made
pub new_is_not_out : (v : PassBooks) (home : List Block) (moment : AtHome v home) (k : ℕ) (w : PassBooks) → v.next < v.limit → get_elem? moment.passes k ≡ some w → times v.next w.out ≡ 0
new_is_not_out v home moment k w right at =
    let out = weigh_has (λ u. times v.next u.out) moment.passes k w at in
    let may = weigh_has (may_make v.next) moment.passes moment.place v moment.there in
    let once = moment.balanced.once v.next in
    let placed = moment.balanced.placed (mark v.next) in
    omega (arith, out, may, once, placed, right)

-- no count of a pass is more than there are ids
pub record IsBounded (v : PassBooks) : Type 0 where
  pub made : length v.made + (v.limit - v.next) ≤ whole
  pub placed : length v.out + length v.freed ≤ whole
  pub parts : v.parts ≤ whole

pub is_bounded : (v : PassBooks) (home : List Block) → AtHome v home → IsBounded v
is_bounded v home moment =
    let parts = weigh_has (λ u. u.parts) moment.passes moment.place v moment.there in
    let few = weigh_has (λ u. length u.made + (u.limit - u.next)) moment.passes moment.place v moment.there in
    let out = weigh_has (λ u. weigh (λ x. 1) u.out) moment.passes moment.place v moment.there in
    let freed = weigh_has (λ u. weigh (λ x. 1) u.freed) moment.passes moment.place v moment.there in
    let placed = moment.balanced.placed (λ x. 1) in
    let made = less moment.passes in
    let all = moment.balanced.few in
    record {
      made = omega (arith, few, all);
      placed = omega (arith, out, freed, placed, made, all, weigh-length v.out, weigh-length v.freed);
      parts = omega (arith, parts, moment.balanced.parts);
    }
  where
    less : (passes : List PassBooks) → total (λ u. weigh (λ x. 1) u.made) passes ≤ total (λ u. length u.made + (u.limit - u.next)) passes
    less [] = omega arith
    less (u ∷ us) = let rest = less us in omega (arith, rest, weigh-length u.made)

-- one more may be freed
pub one_more_freed : (v : PassBooks) (home : List Block) (id : ℕ) → AtHome v home → IsOut v id → length v.freed + 1 ≤ whole
one_more_freed v home id moment mine = let bound = (is_bounded v home moment).placed in let some_out = longer v.out mine in omega (arith, bound, some_out)
  where
    longer : (xs : List ℕ) → 0 < times id xs → 0 < length xs
    longer [] none = absurd (omega (arith, none))
    longer (x ∷ xs) some_x = omega arith

-- ---- the pass with all parts

others_are_spent : (home : List Block) (passes : List PassBooks) (k : ℕ) (v : PassBooks) → IsBalanced home passes → get_elem? passes k ≡ some v → v.parts ≡ whole → EachIn IsSpent (set passes k spent)
others_are_spent home passes k v balanced at all j u there =
    let s = weigh_set (λ u. u.parts) passes k v spent at in
    let few = weigh_has (λ u. u.parts) (set passes k spent) j u there in
    let none : u.parts ≡ 0 = omega (arith, s, few, balanced.parts, all) in
    each_set (λ u. u.parts ≡ 0 → IsSpent u) passes k spent (λ _. is_spent) (λ i w here. (balanced.sound i w here).gone) j u there none

-- a number that is 0 of spent passes is that of all passes
alone : (number : PassBooks → ℕ) → ((u : PassBooks) → IsSpent u → number u ≡ 0) → (home : List Block) (passes : List PassBooks) (k : ℕ) (v : PassBooks) → IsBalanced home passes → get_elem? passes k ≡ some v → v.parts ≡ whole
    → total number passes ≡ number v
alone number zeros home passes k v balanced at all =
    let s = weigh_set number passes k v spent at in
    let none = weigh_zero number (set passes k spent) (λ j u there. zeros u (others_are_spent home passes k v balanced at all j u there)) in
    let nil = zeros spent is_spent in
    omega (arith, s, none, nil)

pub knows_all : (v : PassBooks) (home : List Block) → AtHome v home → v.parts ≡ whole → KnowsAll v home
knows_all v home moment all =
    let made : (weight : ℕ → ℕ) → total (λ u. weigh weight u.made) moment.passes ≡ weigh weight v.made =
    λ weight. alone (λ u. weigh weight u.made) (λ u none. ap (weigh weight) none.made) home moment.passes moment.place v moment.balanced moment.there all in
    record {
      once = λ id. let m = made (mark id) in let o = moment.balanced.once id in omega (arith, m, o);
      placed = λ weight.
          let m = made weight in
          let o = alone (λ u. weigh weight u.out) (λ u none. ap (weigh weight) none.out) home moment.passes moment.place v moment.balanced moment.there all in
          let f = alone (λ u. weigh weight u.freed) (λ u none. ap (weigh weight) none.freed) home moment.passes moment.place v moment.balanced moment.there all in
          let p = moment.balanced.placed weight in
          omega (arith, m, o, f, p);
    }

ids_length : (home : List Block) → weigh (λ x. 1) (ids_of home) ≡ length home
ids_length [] = refl
ids_length (b ∷ home) = let rest = ids_length home in omega (arith, rest)

-- the numbers of an audit
pub record Audits (made freed n : ℕ) (v : PassBooks) : Type 0 where
  pub enough : freed ≤ made
  pub within : n ≤ made - freed
  pub rest : made - freed - n ≡ length v.out
  pub balance : made ≡ n + (made - freed - n) + freed

pub audits : (made freed n : ℕ) (v : PassBooks) → made ≡ length v.made → freed ≡ length v.freed → v.parts ≡ whole → (home : List Block) → length home ≡ n → AtHome v home → Audits made freed n v
audits made freed n v m f all home long moment =
    let p = (knows_all v home moment all).placed (λ x. 1) in
    let a = weigh-length v.made in
    let b = weigh-length v.out in
    let d = weigh-length v.freed in
    let e = ids_length home in
    record {
      enough = omega (arith, p, a, b, d, e, m, f, long);
      within = omega (arith, p, a, b, d, e, m, f, long);
      rest = omega (arith, p, a, b, d, e, m, f, long);
      balance = omega (arith, p, a, b, d, e, m, f, long);
    }

-- ---- a new pool

no_blocks : (home : List Block) → weigh (λ x. 1) (ids_of home) ≡ 0 → home ≡ []
no_blocks [] none = refl
no_blocks (b ∷ home) none = absurd (omega (arith, none))

fresh_is_sound : (keep segment : ℕ) → IsSound keep segment (fresh keep segment)
fresh_is_sound keep segment = is_sound keep segment (fresh keep segment) (omega arith) (record { kept = refl; sized = refl; rights = omega arith })

pub begins : IsBalanced [] (fresh 0 0 ∷ [])
begins = record {
  keep = 0;
  segment = 0;
  sizes = All-nil (λ b. size_of b ≡ 0);
  once = λ id. omega arith;
  placed = λ weight. omega arith;
  parts = refl;
  few = omega arith;
  sound = only;
}
  where
    only : EachIn (IsSound 0 0) (fresh 0 0 ∷ [])
    only zero v at = subst (IsSound 0 0) (some-injective (fresh 0 0) v at) (fresh_is_sound 0 0)
    only (suc k) v at = absurd (some-ne-none v (sym at))

-- the first pass gives way to one that knows the pool's numbers
pub sets_up : (keep segment k : ℕ) (v : PassBooks) → v ≡ fresh 0 0 → Forks IsBalanced k v spent (fresh keep segment)
sets_up keep segment k v is home passes balanced at =
    let n : PassBooks = fresh keep segment in
    let all : v.parts ≡ whole = ap (λ u. u.parts) is in
    let knows = knows_all v home (record { passes = passes; balanced = balanced; place = k; there = at }) all in
    let made : weigh (λ x. 1) v.made ≡ 0 = ap (λ u. weigh (λ x. 1) u.made) is in
    let empty : home ≡ [] = no_blocks home (let p = knows.placed (λ x. 1) in omega (arith, p, made)) in
    let gone : EachIn IsSpent (set passes k spent) = others_are_spent home passes k v balanced at all in
    let only : (number : PassBooks → ℕ) → ((u : PassBooks) → IsSpent u → number u ≡ 0) → total number (set passes k spent ++ n ∷ []) ≡ number n =
    λ number zeros. let s = weigh-append number (set passes k spent) (n ∷ []) in let z = weigh_zero number (set passes k spent) (λ j u there. zeros u (gone j u there)) in omega (arith, s, z) in
    record {
      keep = keep;
      segment = segment;
      sizes = subst (All (λ b. size_of b ≡ segment)) (sym empty) (All-nil (λ b. size_of b ≡ segment));
      once = λ id. let m = only (λ u. times id u.made) (λ u none. ap (times id) none.made) in let r = only (may_make id) (λ u none. let e = none.rights in omega (arith, e)) in omega (arith, m, r);
      placed = λ weight.
          let m = only (λ u. weigh weight u.made) (λ u none. ap (weigh weight) none.made) in
          let o = only (λ u. weigh weight u.out) (λ u none. ap (weigh weight) none.out) in
          let f = only (λ u. weigh weight u.freed) (λ u none. ap (weigh weight) none.freed) in
          let e = ap (λ (bs : List Block). weigh weight (ids_of bs)) empty in
          omega (arith, m, o, f, e);
      parts = let f = weigh_fork (λ u. u.parts) passes k v spent n at in omega (arith, f, balanced.parts, all);
      few = let f = only (λ u. length u.made + (u.limit - u.next)) (λ u none. let e = none.rights in let m = ap length none.made in omega (arith, e, m)) in omega (arith, f);
      sound = each_snoc (IsSound keep segment) (set passes k spent) n (fresh_is_sound keep segment)
          (λ j u there. let none = gone j u there in record { gone = λ _. none; set = λ some_part. absurd (let s = weigh_set (λ u. u.parts) passes k v spent at in let has = weigh_has (λ u. u.parts) (set passes k spent) j u there in omega (arith, s, has, some_part, balanced.parts, all)) });
    }
