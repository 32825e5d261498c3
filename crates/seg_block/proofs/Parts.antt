-- The invariant of a parting is taken apart by an end's view, and put together again. Assumes `Logic`.
use Rattle.std.proofs.Common.{◌≡◌, ℕ, ◌⊎◌, Bool, true, false, List, [], ◌∷◌, sym, refl, subst, inl, inr, true≢false}
use seplogic.Ra.Ura.{Ura}
use base.Stored.{Gv, coded×, coded_list, coded_ℕ, coded_bool}
use base.Logic.{SProp, ent, sep, ex, guard, upd}
use base.Fml.{Fml, ftrue, finv, fobs, fauth}
use types.Logic.{Logic, sem}
use types.Kit.{‵, raw, ◌⊛◌, given, ◌$◌, ◌∵◌, !, qed, by, move, keep, drop, split, fsplit, fsplit3, fjoin, fjoin3, fpick, fpack, learn, show, check, frame, rewrite, use1, use2, done}
use contract.Monad.{fact}
use denote.RawPtr.{Ptr, block_ptr, block_of, count_of}
use denote.Steps.{nothing}
use Rattle.core.specs.Sync.RawAtomic.{asks, always}
use Rattle.seg_block.specs.Memory.{IsPlaced}
use Rattle.seg_block.specs.Rule.{Names, State, published, view, Holds, unless_both, memory, standing, Inner, common, mine, gate_owns}
use Rattle.seg_block.proofs.Asks.{Lies, shared}

abbrev pub IsLive : Bool → Bool → Type 0
IsLive a b = (a ≡ false) ⊎ (b ≡ false)

live_is : (a b : Bool) (F : Fml) → IsLive a b → unless_both a b F ≡ F
live_is false b F e = refl
live_is true false F e = refl
live_is true true F (inl e) = absurd (true≢false e)
live_is true true F (inr e) = absurd (true≢false e)

pub view_same : (xs ys : List ℕ) (a b : Bool) → view xs a ≡ view ys b → (xs ≡ ys) × (a ≡ b)
view_same xs ys a b e = let same = (coded× (coded_list coded_ℕ) coded_bool).inj (xs, a) (ys, b) e in ((λ i. (same i).0), λ i. (same i).1)

module _ {M : Type 1} {𝓤 : Ura M} (𝓛 : Logic 𝓤) (base : Ptr) (z : Names) where
  open 𝓛 use {H, A}

  abbrev ◌⊢◌ : SProp 𝓤 → SProp 𝓤 → Type 1
  P ⊢ Q = ent 𝓤 P Q

  abbrev ◌∗◌ : SProp 𝓤 → SProp 𝓤 → SProp 𝓤
  P ∗ Q = sep 𝓤 P Q

  abbrev ⟦◌⟧ : Fml → SProp 𝓤
  ⟦ P ⟧ = sem 𝓛 P

  infix 26 ◌⊢◌
  infixr 35 ◌∗◌
  abbrev I : Fml
  I = Inner base z

  abbrev C : Fml
  C = common base z

  abbrev pub tail_at : State → Gv
  tail_at s = view (published s) s.tail_left

  abbrev pub front_at : State → Gv
  front_at s = view s.fetched s.front_left

  pub common_twice : ⟦ C ⟧ ⊢ ⟦ C ⟧ ∗ ⟦ C ⟧
  common_twice = qed 𝓛 (‵ C ∷ []) ∵ fsplit ! $ fpick ! (λ at. drop ! $ use1 𝓛 (‵ (finv I) ⊛ ‵ (finv I)) (𝓛.invs.inv_dup I) $ split ! $
      nothing ! $ fpack ! (IsPlaced base z.size) (λ _. ftrue) at $ fjoin ! $ frame ! $ nothing ! $ fpack ! (IsPlaced base z.size) (λ _. ftrue) at $ done !)

  pub placed : (role : ℕ) (log : List ℕ) → ⟦ gate_owns base z role log ⟧ ⊢ fact 𝓤 (IsPlaced base z.size)
  placed role log = qed 𝓛 (‵ C ∷ ‵ (mine base z role log) ∷ []) ∵ fsplit ! $ keep ! (0 ∷ []) $ done !

  -- a step of an end that has X beside the invariant
  pub inside : (change : ℕ → ℕ) (after : ℕ → Fml) (X : SProp 𝓤) → ⟦ I ⟧ ∗ (⟦ C ⟧ ∗ X) ⊢ upd 𝓤 (ex 𝓤 (Lies 𝓛 (block_of base) (count_of base) change after I))
      → ⟦ C ⟧ ∗ X ⊢ asks 𝓛 (block_ptr (block_of base) (count_of base)) change always after
  inside change after X opened = qed 𝓛 (‵ C ∷ raw X ∷ []) ∵ use1 𝓛 (‵ C ⊛ ‵ C) common_twice $ split ! $ fsplit ! $ drop ! $
      by ! (shared 𝓛 (block_of base) (count_of base) change after I (⟦ C ⟧ ∗ X) opened)

  pub reset : (γ : ℕ) (x y u v : Gv) → u ≡ v → A.obs γ x ∗ A.auth γ y ⊢ upd 𝓤 (A.obs γ v ∗ A.auth γ u)
  reset γ x y u v e = subst (λ (g : Gv). A.obs γ x ∗ A.auth γ y ⊢ upd 𝓤 (A.obs γ g ∗ A.auth γ u)) e (𝓛.names.name_set_upd γ x y u)

  abbrev pub TailSees : List ℕ → State → Type 0
  TailSees log s = Holds z.size s × (log ≡ published s) × (s.tail_left ≡ false)

  abbrev pub FrontSees : List ℕ → State → Type 0
  FrontSees log s = Holds z.size s × (log ≡ s.fetched) × (s.front_left ≡ false)

  abbrev pub ForTail : List ℕ → State → SProp 𝓤
  ForTail log s = guard 𝓤 (TailSees log s) (⟦ memory base z s ⟧ ∗ (A.obs z.tail (view log false) ∗ A.auth z.tail (tail_at s)) ∗ A.auth z.front (front_at s))

  abbrev pub ForFront : List ℕ → State → SProp 𝓤
  ForFront log s = guard 𝓤 (FrontSees log s) (⟦ memory base z s ⟧ ∗ (A.obs z.front (view log false) ∗ A.auth z.front (front_at s)) ∗ A.auth z.tail (tail_at s))

  pub tail_opens : (log : List ℕ) → ⟦ I ⟧ ∗ A.obs z.tail (view log false) ⊢ ex 𝓤 (ForTail log)
  tail_opens log = let x : Gv = view log false in
      qed 𝓛 (‵ I ∷ ‵ (fobs z.tail x) ∷ []) ∵ fpick ! (λ s. fsplit3 ! $ fpick ! (λ so. drop ! $ fsplit ! $ move ! (3 ∷ 0 ∷ []) $
      use2 𝓛 (given (x ≡ tail_at s) (‵ (fobs z.tail x) ⊛ ‵ (fauth z.tail (tail_at s)))) (𝓛.names.name_agree z.tail x (tail_at s)) $ learn ! (λ e.
      let same = view_same log (published s) false s.tail_left e in
      rewrite ! 2 (λ (F : Fml). ‵ F) (live_is s.tail_left s.front_left (memory base z s) (inl (sym same.1))) refl $
      show ! (ForTail log) s $ check ! (so, same.0, sym same.1) $ move ! (2 ∷ []) $ done !)))

  pub front_opens : (log : List ℕ) → ⟦ I ⟧ ∗ A.obs z.front (view log false) ⊢ ex 𝓤 (ForFront log)
  front_opens log = let x : Gv = view log false in
      qed 𝓛 (‵ I ∷ ‵ (fobs z.front x) ∷ []) ∵ fpick ! (λ s. fsplit3 ! $ fpick ! (λ so. drop ! $ fsplit ! $ move ! (3 ∷ 1 ∷ []) $
      use2 𝓛 (given (x ≡ front_at s) (‵ (fobs z.front x) ⊛ ‵ (fauth z.front (front_at s)))) (𝓛.names.name_agree z.front x (front_at s)) $ learn ! (λ e.
      let same = view_same log s.fetched false s.front_left e in
      rewrite ! 2 (λ (F : Fml). ‵ F) (live_is s.tail_left s.front_left (memory base z s) (inr (sym same.1))) refl $
      show ! (ForFront log) s $ check ! (so, same.0, sym same.1) $ move ! (2 ∷ []) $ done !)))

  pub closes : (s : State) → Holds z.size s → IsLive s.tail_left s.front_left → A.auth z.tail (tail_at s) ∗ A.auth z.front (front_at s) ∗ ⟦ memory base z s ⟧ ⊢ ⟦ I ⟧
  closes s so live = qed 𝓛 (‵ (fauth z.tail (tail_at s)) ∷ ‵ (fauth z.front (front_at s)) ∷ ‵ (memory base z s) ∷ []) ∵ fjoin ! $
      rewrite ! 1 (λ (F : Fml). ‵ F) (sym (live_is s.tail_left s.front_left (memory base z s) live)) refl $
      nothing ! $ fpack ! (Holds z.size s) (λ _. ftrue) so $ fjoin3 ! $ fpack ! State (standing base z) s $ done !

  pub closes_for_good : (s : State) → Holds z.size s → s.tail_left ≡ true → s.front_left ≡ true → A.auth z.tail (tail_at s) ∗ A.auth z.front (front_at s) ⊢ ⟦ I ⟧
  closes_for_good s so a b = qed 𝓛 (‵ (fauth z.tail (tail_at s)) ∷ ‵ (fauth z.front (front_at s)) ∷ []) ∵ fjoin ! $ nothing ! $
      rewrite ! 0 (λ (F : Fml). ‵ F) {x = unless_both s.tail_left s.front_left (memory base z s)} {y = ftrue} (λ i. unless_both (sym a i) (sym b i) (memory base z s)) refl $ move ! (1 ∷ []) $
      nothing ! $ fpack ! (Holds z.size s) (λ _. ftrue) so $ fjoin3 ! $ fpack ! State (standing base z) s $ done !
