-- How a step on the word of an invariant is shown. Assumes `Logic`.
use Rattle.std.proofs.Common.{ℕ, List, [], ◌∷◌}
use mathlib.Core.List.{Mem, not-mem-nil}
use seplogic.Ra.Ura.{Ura}
use base.Logic.{SProp, ent, sep, wand, ex, guard, upd, apply∗, ex_i, upd_i}
use base.Fml.{Fml, finv, fnamed}
use types.Logic.{Logic, sem}
use types.Kit.{‵, raw, ◌⊛◌, some, ◌$◌, ◌∵◌, !, qed, split, pick, show, check, frame, each, assume, suffices, settle, done, use1, use2}
use denote.RawPtr.{block_ptr}
use Rattle.core.specs.Sync.RawAtomic.{Shift, rests, enters, leaves, word, if_none, along, back, found, asks, always}

module _ {M : Type 1} {𝓤 : Ura M} (𝓛 : Logic 𝓤) (b o : ℕ) (change : ℕ → ℕ) (after : ℕ → Fml) where
  open 𝓛 use {H, A}

  abbrev ⟦◌⟧ : Fml → SProp 𝓤
  ⟦ P ⟧ = sem 𝓛 P

  -- the word holds n, and whoever gets it changed can give back the invariant I and what the step leaves
  abbrev pub Lies : Fml → ℕ → SProp 𝓤
  Lies I n = sep 𝓤 ⟦ word b o n ⟧ (wand 𝓤 ⟦ word b o (change n) ⟧ (upd 𝓤 (sep 𝓤 ⟦ I ⟧ ⟦ after n ⟧)))

  pub shared : (I : Fml) (X : SProp 𝓤) → ent 𝓤 (sep 𝓤 ⟦ I ⟧ X) (upd 𝓤 (ex 𝓤 (Lies I))) → ent 𝓤 (sep 𝓤 (A.inv I) X) (asks 𝓛 (block_ptr b o) change always after)
  shared I X opened =
      let At = λ (l : List (ℕ × Fml)). ex 𝓤 (found 𝓛 l b o change always after) in
      qed 𝓛 (‵ (finv I) ∷ raw X ∷ []) ∵ use1 𝓛 (some (λ (j : ℕ). ‵ (fnamed j I))) (𝓛.invs.inv_named I) $ pick ! (λ j.
      let here : List (ℕ × Fml) = (j, I) ∷ [] in
      let There : SProp 𝓤 = At here in
      suffices ! _ (ex_i 𝓤 (λ (s : Shift). along 𝓛 s At []) (enters j I rests)) $
      suffices ! _ (upd_i 𝓤 (guard 𝓤 (¬ Mem j []) (sep 𝓤 (A.named j I) (wand 𝓤 ⟦ I ⟧ (upd 𝓤 There))))) $ check ! (λ m. not-mem-nil m) $ frame ! $ assume ! (‵ I) $
      use2 𝓛 (raw (upd 𝓤 (ex 𝓤 (Lies I)))) opened $
      settle 𝓛 There (some (λ (n : ℕ). ‵ (word b o n) ⊛ raw (wand 𝓤 ⟦ word b o (change n) ⟧ (upd 𝓤 (sep 𝓤 ⟦ I ⟧ ⟦ after n ⟧))))) $ suffices ! _ (upd_i 𝓤 There) $ pick ! (λ n. split ! $
      show ! (found 𝓛 here b o change always after) n $ frame ! $ each ! (λ (_ : Unit {0}). back 𝓛 here b o change after n) (λ _. assume ! (‵ (word b o (change n))) $
      let Told : SProp 𝓤 = ⟦ after n ⟧ in
      let Both : SProp 𝓤 = sep 𝓤 ⟦ I ⟧ (upd 𝓤 Told) in
      use2 𝓛 (raw (upd 𝓤 (sep 𝓤 ⟦ I ⟧ Told))) (apply∗ 𝓤 ⟦ word b o (change n) ⟧ (upd 𝓤 (sep 𝓤 ⟦ I ⟧ Told))) $
      suffices ! _ (ex_i 𝓤 (λ (s : Shift). along 𝓛 s (if_none 𝓛 Told) here) (leaves rests)) $
      settle 𝓛 Both (‵ I ⊛ ‵ (after n)) $ suffices ! _ (upd_i 𝓤 Both) $ split ! $ frame ! $ suffices ! _ (upd_i 𝓤 Told) $ done !)))
