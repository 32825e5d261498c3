-- The names and the invariant of a new parting. Assumes `Logic`.
use Rattle.std.proofs.Common.{ℕ, false, [], ◌∷◌, sym, refl, inl, arith, true≢false}
use seplogic.Ra.Ura.{Ura}
use base.Fraction.{full_share}
use base.Logic.{SProp, ent, sep}
use base.Fml.{Fml, ftrue, finv, fobs, fauth}
use base.Growing.{latest, at_least}
use types.Logic.{Logic, sem}
use types.Growing.{latest_shows}
use types.Kit.{‵, ◌⊛◌, later, ◌$◌, ◌∵◌, !, qed, move, split, fjoin, fjoin3, fpack, updating, await, now, use1, use3, done}
use denote.RawPtr.{Ptr}
use denote.Steps.{nothing}
use Rattle.seg_block.specs.Memory.{word, way_back, IsPlaced}
use Rattle.seg_block.specs.Rule.{Names, State, view, Holds, log_order, Inner, common, gate_owns, known_owns}
use Rattle.seg_block.proofs.Parts.{common_twice, closes}

module _ {M : Type 1} {𝓤 : Ura M} (𝓛 : Logic 𝓤) (base : Ptr) (z : Names) where
  open 𝓛 use {H, A}

  abbrev ⟦◌⟧ : Fml → SProp 𝓤
  ⟦ P ⟧ = sem 𝓛 P

  abbrev I : Fml
  I = Inner base z

  abbrev C : Fml
  C = common base z

  abbrev fresh : State
  fresh = record { fetched = []; pending = []; rest = []; tail_left = false; front_left = false }

  fine : Holds z.size fresh
  fine = record { fits = omega arith; filled = λ e. absurd (true≢false (sym e)) }

  abbrev tail_half : Fml
  tail_half = fobs z.tail (view [] false)

  abbrev front_half : Fml
  front_half = fobs z.front (view [] false)

  abbrev now_at : ℕ → Fml
  now_at γ = latest log_order full_share γ []

  abbrev reached : ℕ → Fml
  reached γ = at_least log_order γ []

  pub named : IsPlaced base z.size → ent 𝓤 (sep 𝓤 ⟦ tail_half ⟧ (sep 𝓤 ⟦ fauth z.tail (view [] false) ⟧ (sep 𝓤 ⟦ front_half ⟧ (sep 𝓤 ⟦ fauth z.front (view [] false) ⟧
      (sep 𝓤 ⟦ now_at z.log ⟧ (sep 𝓤 ⟦ now_at z.first ⟧ (sep 𝓤 ⟦ word base 0 ⟧ ⟦ way_back base z.size ⟧)))))))
      (H.⇛ (sep 𝓤 ⟦ gate_owns base z 0 [] ⟧ (sep 𝓤 ⟦ gate_owns base z 1 [] ⟧ ⟦ known_owns base z [] [] ⟧)))
  named at = qed 𝓛 (‵ tail_half ∷ ‵ (fauth z.tail (view [] false)) ∷ ‵ front_half ∷ ‵ (fauth z.front (view [] false)) ∷ ‵ (now_at z.log) ∷ ‵ (now_at z.first) ∷ ‵ (word base 0) ∷ ‵ (way_back base z.size) ∷ []) ∵
      updating ! $ move ! (4 ∷ []) $ use1 𝓛 (‵ (now_at z.log) ⊛ ‵ (reached z.log)) (latest_shows log_order 𝓛 full_share z.log [] [] ([], refl)) $ split ! $
      move ! (6 ∷ []) $ use1 𝓛 (‵ (now_at z.first) ⊛ ‵ (reached z.first)) (latest_shows log_order 𝓛 full_share z.first [] [] ([], refl)) $ split ! $
      -- [first; at first; log; at log; tail; auth; front; auth; word; way]
      move ! (3 ∷ 1 ∷ []) $ fjoin ! $ move ! (2 ∷ 1 ∷ []) $ fjoin ! $
      -- [logs; known; tail; auth; front; auth; word; way]
      nothing ! $ nothing ! $ nothing ! $ fjoin3 ! $ move ! (0 ∷ 8 ∷ []) $ fjoin ! $
      -- [runs and way; logs; known; tail; auth; front; auth; word]
      move ! (1 ∷ 0 ∷ []) $ fjoin ! $ move ! (6 ∷ 0 ∷ []) $ fjoin ! $
      -- [memory; known; tail; auth; front; auth]
      move ! (3 ∷ 5 ∷ 0 ∷ []) $ use3 𝓛 (‵ I) (closes 𝓛 base z fresh fine (inl refl)) $ use1 𝓛 (later (‵ (finv I))) (𝓛.invs.inv_new I) $ await ! tt $ now ! $
      nothing ! $ fpack ! (IsPlaced base z.size) (λ _. ftrue) at $ fjoin ! $ use1 𝓛 (‵ C ⊛ ‵ C) (common_twice 𝓛 base z) $ split ! $
      -- [C; C; known; tail; front]
      move ! (0 ∷ 3 ∷ []) $ fjoin ! $ move ! (1 ∷ 3 ∷ []) $ fjoin ! $ move ! (1 ∷ 0 ∷ 2 ∷ []) $ done !
