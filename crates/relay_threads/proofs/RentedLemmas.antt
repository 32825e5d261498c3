-- The blocks of a pipe, as the pool knows them.
use Rattle.std.proofs.Common.{◌≡◌, ◌+◌, ◌-◌, ℕ, List, [], ◌∷◌, map, sym, refl, ap, arith, subst, ◌∙◌}
use Rattle.std.proofs.lemmas.List.Elements.{All-from_recursion, recursion_from_All}
use Rattle.std.specs.List.{AllByRecursion}
use Rattle.seg_block.specs.declared.block.Block.{Block}
use Rattle.seg_block.specs.Words.{id_of, size_of}
use Rattle.seg_block.specs.Numbered.{AreDistinct, mark, times, weigh}
use Rattle.seg_pool.specs.Books.{AreOfSize, ids_of}
use Rattle.pipe_state.specs.Held.{AreAll}
use Rattle.pipe_state.specs.Lying.{HaveOwnIds}
use Rattle.pipe_state.specs.Released.{BlockName, names_of}
use Rattle.pipe_state.specs.Segments.{AreSized}
use Rattle.relay_threads.specs.Rented.{ids_named}

pub ids_by_name : (blocks : List Block) → ids_named (names_of blocks) ≡ ids_of blocks
ids_by_name [] = refl
ids_by_name (b ∷ blocks) = ap (λ ids. id_of b ∷ ids) (ids_by_name blocks)

pub own_ids : (blocks : List Block) → AreDistinct (ids_of blocks) → HaveOwnIds (names_of blocks)
own_ids blocks apart = subst (λ ids. AreDistinct ids) (sym (ids_by_name blocks)) apart

pub sized_by_name : (size : ℕ) (blocks : List Block) → AreOfSize size blocks → AreSized size (names_of blocks)
sized_by_name size blocks sized = by_recursion blocks (recursion_from_All (λ b. size_of b ≡ size) blocks sized) where
  by_recursion : (blocks : List Block) → AllByRecursion (λ b. size_of b ≡ size) blocks → AreSized size (names_of blocks)
  by_recursion [] sized = tt
  by_recursion (b ∷ blocks) sized = (sized.0, by_recursion blocks sized.1)

pub sized_blocks : (size : ℕ) (blocks : List Block) → AreSized size (names_of blocks) → AreOfSize size blocks
sized_blocks size blocks sized = All-from_recursion (λ b. size_of b ≡ size) blocks (by_recursion blocks sized) where
  by_recursion : (blocks : List Block) → AreSized size (names_of blocks) → AllByRecursion (λ b. size_of b ≡ size) blocks
  by_recursion [] sized = tt
  by_recursion (b ∷ blocks) sized = (sized.0, by_recursion blocks sized.1)

-- what stands for other blocks with the same names
pub ids_of_same : (back blocks : List Block) → names_of back ≡ names_of blocks → ids_of back ≡ ids_of blocks
ids_of_same back blocks same = sym (ids_by_name back) ∙ ap (λ (names : List BlockName). ids_named names) same ∙ ids_by_name blocks

pub sizes_of_same : (size : ℕ) (back blocks : List Block) → names_of back ≡ names_of blocks → AreOfSize size blocks → AreOfSize size back
sizes_of_same size back blocks same sized = sized_blocks size back (subst (λ (names : List BlockName). AreSized size names) (sym same) (sized_by_name size blocks sized))

weigh-map : {X Y : Type 0} (f : X → Y) (weight : Y → ℕ) (xs : List X) → weigh weight (map f xs) ≡ weigh (λ x. weight (f x)) xs
weigh-map f weight [] = refl
weigh-map f weight (x ∷ xs) = let rest = weigh-map f weight xs in omega (arith, rest)

-- what the pipe had, by the ids of the blocks that came back
same_ids : (back blocks : List BlockName) → AreAll back blocks → (id : ℕ) → times id (ids_named back) ≡ times id (ids_named blocks)
same_ids back blocks all id =
    weigh-map (λ (b : BlockName). b.id) (mark id) back ∙ all (λ b. mark id b.id) ∙ sym (weigh-map (λ (b : BlockName). b.id) (mark id) blocks)

-- 0 for a block of this size
abbrev off_size : ℕ → BlockName → ℕ
off_size size b = (size - b.size) + (b.size - size)

module _ (size : ℕ) where
  none_off : (blocks : List BlockName) → AreSized size blocks → weigh (off_size size) blocks ≡ 0
  none_off [] sized = refl
  none_off (b ∷ blocks) sized = let rest = none_off blocks sized.1 in let here = sized.0 in omega (arith, rest, here)

  all_sized : (blocks : List BlockName) → weigh (off_size size) blocks ≡ 0 → AreSized size blocks
  all_sized [] none = tt
  all_sized (b ∷ blocks) none = (omega (arith, none), all_sized blocks (omega (arith, none)))

  -- the blocks that came back are of the size of those that the pipe had
  same_sizes : (back blocks : List BlockName) → AreAll back blocks → AreSized size blocks → AreSized size back
  same_sizes back blocks all sized = all_sized back (all (off_size size) ∙ none_off blocks sized)

module _ (size : ℕ) (back : List Block) (blocks : List BlockName) (all : AreAll (names_of back) blocks) where
  pub ids_came_back : (id : ℕ) → times id (ids_of back) ≡ times id (ids_named blocks)
  ids_came_back id = ap (λ (ids : List ℕ). times id ids) (sym (ids_by_name back)) ∙ same_ids (names_of back) blocks all id

  pub sizes_came_back : AreSized size blocks → AreOfSize size back
  sizes_came_back sized = sized_blocks size back (same_sizes size (names_of back) blocks all sized)

module _ (back first : List Block) (all : AreAll (names_of back) (names_of first)) where
  -- the blocks that came back are those that were handed in
  pub same_blocks : (id : ℕ) → times id (ids_of back) ≡ times id (ids_of first)
  same_blocks id = ids_came_back 0 back (names_of first) all id ∙ ap (λ (ids : List ℕ). times id ids) (ids_by_name first)

  pub same_size : (size : ℕ) → AreOfSize size first → AreOfSize size back
  same_size size sized = sizes_came_back size back (names_of first) all (sized_by_name size first sized)
