-- The steps of the two ends, with their bytes at a pointer. Assumes `Logic`.
use Rattle.std.proofs.Common.{◌≡◌, ℕ, ◌+◌, ◌*◌, ◌%◌, ◌^◌, ◌≤◌, ◌⊎◌, List, [], ◌++◌, length, take, drop, sym, refl, subst, inl, inr}
use seplogic.Ra.Ura.{Ura}
use base.Logic.{SProp, ent, sep, id⊢}
use base.Fml.{Fml, fsep, fex}
use types.Logic.{Logic, sem}
use denote.RawPtr.{Ptr, InBlock, block_ptr, null_ptr, block_of, count_of}
use Rattle.core.specs.Sync.RawAtomic.{asks, always}
use Rattle.seg_block.specs.Memory.{known, place, bytes_at, run_owns, IsPlaced}
use Rattle.seg_block.specs.Rule.{Names, gate_owns, known_owns}
use Rattle.seg_block.proofs.Steps.{commits, Saw, looks}
use Rattle.seg_block.proofs.Leaves.{leaving, tail_leaves, front_leaves}

-- what an end that leaves gives up
abbrev pub Gives : Ptr → Names → ℕ → List ℕ → Ptr → List ℕ → ℕ → Type 0
Gives base z role log p items bit =
    ((role ≡ 0) × (bit ≡ 1) × (p ≡ place base (length log)) × (length log + length items ≡ z.size))
    ⊎ ((role ≡ 1) × (bit ≡ 2) × (p ≡ place base 0) × (items ≡ log))

module _ {M : Type 1} {𝓤 : Ura M} (𝓛 : Logic 𝓤) where
  abbrev ⟦◌⟧ : Fml → SProp 𝓤
  ⟦ P ⟧ = sem 𝓛 P

  abbrev step : Ptr → (ℕ → ℕ) → (ℕ → Fml) → SProp 𝓤
  step base change after = asks 𝓛 (block_ptr (block_of base) (count_of base)) change always after

  abbrev pub committed : Ptr → Names → List ℕ → List ℕ → ℕ → Fml
  committed base z log items count =
      fsep (gate_owns base z 0 (log ++ take count items)) (fsep (run_owns (place base (length log + count)) (drop count items)) (known_owns base z (log ++ take count items) []))

  pub commits_at : (base : Ptr) (z : Names) (log : List ℕ) (p : Ptr) (items : List ℕ) (count : ℕ) → IsPlaced base z.size → p ≡ place base (length log) → count ≤ length items → length log + count ≤ z.size
      → ent 𝓤 (sep 𝓤 ⟦ gate_owns base z 0 log ⟧ ⟦ run_owns p items ⟧) (step base (λ n. (n + 4 * count) % 2 ^ 64) (λ _. committed base z log items count))
  commits_at (block_ptr b o) z log p items count at is near fits =
      subst (λ (q : Ptr). ent 𝓤 (sep 𝓤 ⟦ gate_owns (block_ptr b o) z 0 log ⟧ ⟦ run_owns q items ⟧) (step (block_ptr b o) (λ n. (n + 4 * count) % 2 ^ 64) (λ _. committed (block_ptr b o) z log items count))) (sym is)
      (commits 𝓛 (block_ptr b o) z log items count near fits at.1.1)
  commits_at null_ptr z log p items count at is near fits = absurd at.0

  abbrev pub looked : Ptr → Names → List ℕ → List ℕ → ℕ → List ℕ → Fml
  looked base z log learnt n l = fsep (known (Saw 𝓛 base z log learnt [] n l)) (fsep (gate_owns base z 1 l) (run_owns (place base 0) l))

  pub looks_at : (base : Ptr) (z : Names) (log : List ℕ) (p : Ptr) (items learnt first : List ℕ) → IsPlaced base z.size → p ≡ place base 0 → items ≡ log
      → ent 𝓤 (sep 𝓤 ⟦ gate_owns base z 1 log ⟧ (sep 𝓤 ⟦ run_owns p items ⟧ ⟦ known_owns base z learnt first ⟧)) (step base (λ n. n) (λ n. fex (List ℕ) (looked base z log learnt n)))
  looks_at (block_ptr b o) z log p items learnt first at is same =
      subst (λ (r : Ptr × List ℕ). ent 𝓤 (sep 𝓤 ⟦ gate_owns (block_ptr b o) z 1 log ⟧ (sep 𝓤 ⟦ run_owns r.0 r.1 ⟧ ⟦ known_owns (block_ptr b o) z learnt first ⟧)) (step (block_ptr b o) (λ n. n) (λ n. fex (List ℕ) (looked (block_ptr b o) z log learnt n))))
      (λ i. (sym is i, sym same i)) (looks 𝓛 (block_ptr b o) z log learnt first)
  looks_at null_ptr z log p items learnt first at is same = absurd at.0

  pub leaves_at : (base : Ptr) (z : Names) (role : ℕ) (log : List ℕ) (p : Ptr) (items learnt first : List ℕ) (bit : ℕ) → IsPlaced base z.size → Gives base z role log p items bit
      → ent 𝓤 (sep 𝓤 ⟦ gate_owns base z role log ⟧ (sep 𝓤 ⟦ run_owns p items ⟧ ⟦ known_owns base z learnt first ⟧)) (step base (λ n. (n + bit) % 2 ^ 64) (leaving 𝓛 base z role log first))
  leaves_at (block_ptr b o) z role log p items learnt first bit at (inl is) =
      subst (λ (r : ℕ × ℕ × Ptr). ent 𝓤 (sep 𝓤 ⟦ gate_owns (block_ptr b o) z r.0 log ⟧ (sep 𝓤 ⟦ run_owns r.2 items ⟧ ⟦ known_owns (block_ptr b o) z learnt first ⟧)) (step (block_ptr b o) (λ n. (n + r.1) % 2 ^ 64) (leaving 𝓛 (block_ptr b o) z r.0 log first)))
      (λ i. (sym is.0 i, sym is.1 i, sym is.2 i)) (tail_leaves 𝓛 (block_ptr b o) z log learnt first items is.3 at.1.1)
  leaves_at (block_ptr b o) z role log p items learnt first bit at (inr is) =
      subst (λ (r : ℕ × ℕ × Ptr × List ℕ). ent 𝓤 (sep 𝓤 ⟦ gate_owns (block_ptr b o) z r.0 log ⟧ (sep 𝓤 ⟦ run_owns r.2 r.3 ⟧ ⟦ known_owns (block_ptr b o) z learnt first ⟧)) (step (block_ptr b o) (λ n. (n + r.1) % 2 ^ 64) (leaving 𝓛 (block_ptr b o) z r.0 log first)))
      (λ i. (sym is.0 i, sym is.1 i, sym is.2 i, sym is.3 i)) (front_leaves 𝓛 (block_ptr b o) z log learnt first at.1.1)
  leaves_at null_ptr z role log p items learnt first bit at gives = absurd at.0

  -- bytes of the segment at their pointer
  pub run_in : (base : Ptr) (k : ℕ) (xs : List ℕ) → InBlock base → ent 𝓤 ⟦ bytes_at base k xs ⟧ ⟦ run_owns (place base k) xs ⟧
  run_in (block_ptr b o) k xs at = id⊢ 𝓤 _
  run_in null_ptr k xs at = absurd at

  pub run_out : (base : Ptr) (k : ℕ) (xs : List ℕ) (p : Ptr) → InBlock base → p ≡ place base k → ent 𝓤 ⟦ run_owns p xs ⟧ ⟦ bytes_at base k xs ⟧
  run_out (block_ptr b o) k xs p at is = subst (λ (q : Ptr). ent 𝓤 ⟦ run_owns q xs ⟧ ⟦ bytes_at (block_ptr b o) k xs ⟧) (sym is) (id⊢ 𝓤 _)
  run_out null_ptr k xs p at is = absurd at

  -- where byte k lies
  pub placed_at : (base : Ptr) (k : ℕ) → InBlock base → place base k ≡ block_ptr (block_of base) (count_of base + (8 + k))
  placed_at (block_ptr b o) k at = refl
  placed_at null_ptr k at = absurd at
