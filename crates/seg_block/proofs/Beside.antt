-- The two ends of a parting in one hand: what the front fetched is a front part of what the tail published. Assumes `Logic`.
use Rattle.std.proofs.Common.{◌≡◌, ℕ, false, List, [], ◌∷◌, ◌++◌, sym, ap, ◌∙◌, inl}
use mathlib.Core.List.{IsPrefix}
use seplogic.Ra.Ura.{Ura}
use base.Logic.{SProp, ent, sep, wand, guard, upd, upd_i}
use base.Fml.{Fml, fobs, fauth}
use types.Logic.{Logic, sem}
use types.Kit.{‵, raw, ◌⊛◌, some, given, later, ◌$◌, ◌∵◌, !, qed, move, drop, split, split3, fsplit, fjoin, pick, learn, check, frame, assume, suffices, use1, use2, use3, updating, await, now, done}
use denote.RawPtr.{Ptr}
use Rattle.seg_block.specs.Rule.{Names, State, view, memory, Inner, common, gate_owns}
use Rattle.seg_block.proofs.Parts.{tail_at, front_at, common_twice, TailSees, tail_opens, closes, view_same}

module _ {M : Type 1} {𝓤 : Ura M} (𝓛 : Logic 𝓤) (base : Ptr) (z : Names) (log seen : List ℕ) where
  open 𝓛 use {H, A}

  abbrev ⟦◌⟧ : Fml → SProp 𝓤
  ⟦ P ⟧ = sem 𝓛 P

  abbrev I : Fml
  I = Inner base z

  abbrev C : Fml
  C = common base z

  abbrev writes : Fml
  writes = fobs z.tail (view log false)

  abbrev reads : Fml
  reads = fobs z.front (view seen false)

  abbrev Told : SProp 𝓤
  Told = guard 𝓤 (IsPrefix seen log) (sep 𝓤 ⟦ writes ⟧ ⟦ reads ⟧)

  peeks : ent 𝓤 (sep 𝓤 ⟦ writes ⟧ ⟦ reads ⟧) (wand 𝓤 ⟦ I ⟧ (upd 𝓤 (sep 𝓤 ⟦ I ⟧ Told)))
  peeks = qed 𝓛 (‵ writes ∷ ‵ reads ∷ []) ∵ assume ! (‵ I) $ suffices ! _ (upd_i 𝓤 (sep 𝓤 ⟦ I ⟧ Told)) $ move ! (0 ∷ 1 ∷ []) $
      use2 𝓛 (some (λ (s : State). given (TailSees 𝓛 base z log s) (‵ (memory base z s) ⊛ (‵ writes ⊛ ‵ (fauth z.tail (tail_at 𝓛 base z s))) ⊛ ‵ (fauth z.front (front_at 𝓛 base z s)))))
      (tail_opens 𝓛 base z log) $ pick ! (λ s. learn ! (λ so. split3 ! $ move ! (1 ∷ []) $ split ! $
      -- [the tail's half; its other half; memory; the front's other half; the front's half]
      move ! (4 ∷ 3 ∷ []) $ use2 𝓛 (given (view seen false ≡ front_at 𝓛 base z s) (‵ reads ⊛ ‵ (fauth z.front (front_at 𝓛 base z s)))) (𝓛.names.name_agree z.front (view seen false) (front_at 𝓛 base z s)) $ learn ! (λ e. split ! $
      let same = view_same seen s.fetched false s.front_left e in
      let within : IsPrefix seen log = (s.pending, ap (λ (l : List ℕ). l ++ s.pending) same.0 ∙ sym so.1) in
      -- [the front's half; its other half; the tail's half; its other half; memory]
      move ! (3 ∷ 1 ∷ 4 ∷ []) $ use3 𝓛 (‵ I) (closes 𝓛 base z s so.0 (inl so.2)) $ frame ! $ check ! within $ move ! (1 ∷ 0 ∷ []) $ done !)))

  pub agrees : ent 𝓤 (sep 𝓤 ⟦ gate_owns base z 0 log ⟧ ⟦ gate_owns base z 1 seen ⟧) (H.⇛ (guard 𝓤 (IsPrefix seen log) (sep 𝓤 ⟦ gate_owns base z 0 log ⟧ ⟦ gate_owns base z 1 seen ⟧)))
  agrees = qed 𝓛 (‵ (gate_owns base z 0 log) ∷ ‵ (gate_owns base z 1 seen) ∷ []) ∵ updating ! $ fsplit ! $ use1 𝓛 (‵ C ⊛ ‵ C) (common_twice 𝓛 base z) $ split ! $ fsplit ! $ drop ! $
      -- [the invariant; C; the tail's half; the front]
      move ! (3 ∷ []) $ fsplit ! $ move ! (4 ∷ 1 ∷ []) $ use2 𝓛 (raw (wand 𝓤 ⟦ I ⟧ (upd 𝓤 (sep 𝓤 ⟦ I ⟧ Told)))) peeks $
      -- [the step; C of the front; the invariant; C]
      move ! (2 ∷ 0 ∷ []) $ use2 𝓛 (later (given (IsPrefix seen log) (‵ writes ⊛ ‵ reads))) (𝓛.invs.inv_acc I Told) $ await ! tt $ learn ! (λ within. split ! $ now ! $ check ! within $
      -- [the tail's half; the front's half; C of the front; C]
      move ! (3 ∷ 0 ∷ []) $ fjoin ! $ move ! (2 ∷ 1 ∷ []) $ fjoin ! $ move ! (1 ∷ 0 ∷ []) $ done !)
