-- Blocks that are rented and given back one after the other.
use Rattle.std.proofs.Common.{◌≡◌, ◌≤◌, ◌+◌, ℕ, List, [], ◌∷◌, ◌++◌, sym, refl, ap, ◌∙◌, subst, arith}
use Rattle.std.specs.Prelude.{Result, Ok, Err, IfOk}
use Rattle.std.specs.declared.alloc.AllocError.{AllocError}
use Rattle.std.proofs.lemmas.List.Elements.{All-append, All-cons, All-head, All-nil, All-tail}
use Rattle.seg_block.specs.declared.block.Block.{Block}
use Rattle.seg_block.specs.Words.{id_of, size_of}
use Rattle.seg_block.specs.Numbered.{AreDistinct, mark, times}
use Rattle.seg_pool.specs.declared.books.PassBooks.{PassBooks}
use Rattle.seg_pool.specs.Books.{AreOfSize, AtHome, IsOut, ids_of}
use Rattle.seg_pool.specs.Steps.{making, merged, split_new, split_old}
use Rattle.seg_pool.specs.Words.{Adds, Freed, FromHome, Gives, GivesEach, IsOf, MadeNew, PassState, PoolState, Removes, Rents, RentsEach, ToHome}
use Rattle.seg_pool.proofs.WeighLemmas.{weigh-append, weigh_without}
use Rattle.seg_pool.proofs.StepLemmas.{ids_append}
use Rattle.seg_pool.proofs.MomentLemmas.{are_distinct}

-- ---- what is out

pub gives_one : (v w : PassBooks) (id : ℕ) → IsOut v id → Gives v id w → Removes v (id ∷ []) w
gives_one v w id mine (ToHome home room moment is) = record {
  out = λ x. let same = ap (λ (u : PassBooks). times x u.out) is in let less = weigh_without (mark x) id v.out mine in omega (arith, same, less);
  parts = ap (λ (u : PassBooks). u.parts) is;
}
gives_one v w id mine (Freed home full moment is) = record {
  out = λ x. let same = ap (λ (u : PassBooks). times x u.out) is in let less = weigh_without (mark x) id v.out mine in omega (arith, same, less);
  parts = ap (λ (u : PassBooks). u.parts) is;
}

pub makes_one : (v w : PassBooks) (id : ℕ) → id ≡ v.next → w ≡ making v → Adds v (id ∷ []) w
makes_one v w id named is = record {
  out = λ x. let same = ap (λ (u : PassBooks). times x u.out) is in let more = weigh-append (mark x) v.out (v.next ∷ []) in let marked = ap (mark x) named in omega (arith, same, more, marked);
  parts = ap (λ (u : PassBooks). u.parts) is;
}

pub new_adds : (v w : PassBooks) (made : Result Block AllocError) → IfOk made (λ block. (id_of block ≡ v.next) × (w ≡ making v)) → IfOk made (λ block. Adds v (id_of block ∷ []) w)
new_adds v w (Ok block) is = makes_one v w (id_of block) is.0 is.1
new_adds v w (Err error) is = tt

pub rents_one : (v w : PassBooks) (id : ℕ) → Rents v id w → Adds v (id ∷ []) w
rents_one v w id (FromHome block rest named moment is) = record {
  out = λ x. let same = ap (λ (u : PassBooks). times x u.out) is in let more = weigh-append (mark x) v.out (id ∷ []) in omega (arith, same, more);
  parts = ap (λ (u : PassBooks). u.parts) is;
}
rents_one v w id (MadeNew named right moment is) = makes_one v w id named is

pub nothing_more : (first between last : PassBooks) (ids : List ℕ) → Adds first ids between → Removes between ids last → Adds first [] last
nothing_more first between last ids adds removes = record {
  out = λ x. let a = adds.out x in let b = removes.out x in omega (arith, a, b);
  parts = removes.parts ∙ adds.parts;
}

pub rented_are_distinct : (first last : PassBooks) (ids : List ℕ) (home : List Block) → Adds first ids last → AtHome last home → AreDistinct ids
rented_are_distinct first last ids home adds moment x = let a = adds.out x in let b = are_distinct last home moment x in omega (arith, a, b)

pub met_again : (v old new old_later new_later last : PassBooks) (ids more : List ℕ) → old ≡ split_old v → new ≡ split_new v → Adds old ids old_later → Adds new more new_later → last ≡ merged old_later new_later → Adds v (ids ++ more) last
met_again v old new old_later new_later last ids more stays goes one two met = record {
  out = λ x.
      let a = one.out x in
      let b = two.out x in
      let c = ap (λ (u : PassBooks). times x u.out) met in
      let d = weigh-append (mark x) old_later.out new_later.out in
      let e = weigh-append (mark x) ids more in
      let f = ap (λ (u : PassBooks). times x u.out) stays in
      let g = ap (λ (u : PassBooks). times x u.out) goes in
      omega (arith, a, b, c, d, e, f, g);
  parts =
      let c = ap (λ (u : PassBooks). u.parts) met in
      let f = ap (λ (u : PassBooks). u.parts) stays in
      let g = ap (λ (u : PassBooks). u.parts) goes in
      omega (arith, one.parts, two.parts, c, f, g);
}

-- ---- while blocks are given back

-- Which blocks are left: all that may come behind goes on from here.
pub record IsGiving (pool : PoolState) (first : PassBooks) (all rest : List Block) (pass : PassState) : Type 0 where
  pub of : IsOf pool pass
  pub goes_on : (last : PassBooks) → GivesEach pass.books (ids_of rest) last → GivesEach first (ids_of all) last
  pub out : (x : ℕ) → times x pass.books.out + times x (ids_of all) ≡ times x first.out + times x (ids_of rest)
  pub enough : (x : ℕ) → times x (ids_of rest) ≤ times x pass.books.out
  pub sizes : AreOfSize pool.segment rest
  pub parts : pass.books.parts ≡ first.parts

first_is_out : (block : Block) (rest : List Block) (v : PassBooks) → ((x : ℕ) → times x (ids_of (block ∷ rest)) ≤ times x v.out) → IsOut v (id_of block)
first_is_out block rest v enough = let one = enough (id_of block) in omega (arith, one)

pub may_give : (pool : PoolState) (first : PassBooks) (all rest behind : List Block) (block : Block) (pass : PassState) → IsGiving pool first all rest pass → rest ≡ block ∷ behind → IsOut pass.books (id_of block) × (size_of block ≡ pool.segment)
may_give pool first all rest behind block pass giving is = (
  first_is_out block behind pass.books (subst (λ (l : List Block). (x : ℕ) → times x (ids_of l) ≤ times x pass.books.out) is giving.enough),
  All-head (λ b. size_of b ≡ pool.segment) block behind (subst (AreOfSize pool.segment) is giving.sizes),
)

pub gives_on : (pool : PoolState) (first : PassBooks) (all rest behind : List Block) (block : Block) (pass after : PassState) → IsGiving pool first all rest pass → rest ≡ block ∷ behind → IsOf pool after → Gives pass.books (id_of block) after.books → IsGiving pool first all behind after
gives_on pool first all rest behind block pass after giving is of given =
    let may = may_give pool first all rest behind block pass giving is in
    let one = gives_one pass.books after.books (id_of block) may.0 given in
    record {
      of = of;
      goes_on = λ last gives. giving.goes_on last (subst (λ (l : List Block). GivesEach pass.books (ids_of l) last) (sym is) (after.books, given, gives));
      out = λ x. let a = one.out x in let b = giving.out x in let c = ap (λ (l : List Block). times x (ids_of l)) is in omega (arith, a, b, c);
      enough = λ x. let a = one.out x in let b = giving.enough x in let c = ap (λ (l : List Block). times x (ids_of l)) is in omega (arith, a, b, c);
      sizes = All-tail (λ b. size_of b ≡ pool.segment) block behind (subst (AreOfSize pool.segment) is giving.sizes);
      parts = one.parts ∙ giving.parts;
    }

-- ---- while blocks are rented

pub record IsRenting (pool : PoolState) (first : PassBooks) (blocks : List Block) (pass : PassState) : Type 0 where
  pub of : IsOf pool pass
  pub rents : RentsEach first (ids_of blocks) pass.books
  pub adds : Adds first (ids_of blocks) pass.books
  pub sizes : AreOfSize pool.segment blocks

rents_one_more : (v u w : PassBooks) (blocks : List Block) (block : Block) → RentsEach v (ids_of blocks) u → Rents u (id_of block) w → RentsEach v (ids_of (blocks ++ block ∷ [])) w
rents_one_more v u w [] block is rents = (w, subst (λ (p : PassBooks). Rents p (id_of block) w) is rents, refl)
rents_one_more v u w (other ∷ blocks) block each rents = (each.0, each.1, rents_one_more each.0 u w blocks block each.2 rents)

pub rents_on : (pool : PoolState) (first : PassBooks) (blocks more : List Block) (block : Block) (pass after : PassState) → IsRenting pool first blocks pass → more ≡ blocks ++ block ∷ [] → IsOf pool after → size_of block ≡ pool.segment → Rents pass.books (id_of block) after.books
    → IsRenting pool first more after
rents_on pool first blocks more block pass after renting is of size rents =
    let one = rents_one pass.books after.books (id_of block) rents in
    record {
      of = of;
      rents = subst (λ (l : List Block). RentsEach first (ids_of l) after.books) (sym is) (rents_one_more first pass.books after.books blocks block renting.rents rents);
      adds = record {
        out = λ x. let a = one.out x in let b = renting.adds.out x in let c = ap (λ (l : List Block). times x (ids_of l)) is in let d = ids_append (mark x) blocks block in omega (arith, a, b, c, d);
        parts = one.parts ∙ renting.adds.parts;
      };
      sizes = subst (AreOfSize pool.segment) (sym is) (All-append (λ b. size_of b ≡ pool.segment) blocks (block ∷ []) renting.sizes (All-cons (λ b. size_of b ≡ pool.segment) block [] size (All-nil (λ b. size_of b ≡ pool.segment))));
    }
