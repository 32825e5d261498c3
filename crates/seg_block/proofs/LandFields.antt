-- The data fields of a block from an allocator. Assumes `Logic`.
use Rattle.std.proofs.Common.{◌≡◌, T, List, [], ◌∷◌, ◌++◌, refl, ap, ◌∙◌}
use seplogic.Ra.Ura.{Ura}
use mir.Syntax.{ty_ptr, ty_struct, tcons, tnil}
use mir.Val.{Val, vstruct, vcons, vnil, of_list, has_ty, WT}
use base.Logic.{ent, emp}
use types.Logic.{Logic, sem}
use denote.RattleType.{RattleType}
use denote.Laws.{Is}
use denote.RawPtr.{Ptr, block_ptr, null_ptr, ptr_val, InBlock}
use denote.Shadow.{makes_shadow}
use denote.Struct.Struct.{Struct}
use denote.Struct.Owning.{shape}
use Rattle.core.specs.declared.alloc.Allocator as Allocator
use Rattle.seg_block.specs.contracts.land.Land as Land

abbrev pub land_val : Ptr → Val
land_val p = vstruct (vcons (ptr_val p) (vcons (vstruct vnil) vnil))

pub land_good : (p : Ptr) → InBlock p → T (has_ty (ty_struct [] (tcons ty_ptr (tcons (ty_struct [] tnil) tnil))) (land_val p)) × WT (land_val p)
land_good (block_ptr b o) i = (tt, (tt, (tt, tt)))
land_good null_ptr i = absurd i

module _ (R U : RattleType) (g : Allocator.Ghosts U.Denot) where
  abbrev pub LandData : RattleType
  LandData = Struct (shape (Land.the_type R U g))

  pub land_told : (p : Ptr) (vs : List Val) → Is LandData (p, (tt, tt)) vs → vs ≡ land_val p ∷ []
  land_told p vs is = is.1.0 ∙ ap (λ (ws : List Val). vstruct (of_list (ws ++ (is.0.1.0 ++ []))) ∷ []) is.1.1.0 ∙ ap (λ (ws : List Val). vstruct (of_list (ptr_val p ∷ (ws ++ []))) ∷ []) is.1.1.1.0.1.0

  pub land_made : {M : Type 1} {𝓤 : Ura M} (𝓛 : Logic 𝓤) (p : Ptr) → ent 𝓤 (emp 𝓤) (sem 𝓛 (LandData.own_val (p, (tt, tt)) (land_val p ∷ [])))
  land_made 𝓛 p = makes_shadow 𝓛 (LandData.own_val (p, (tt, tt)) (land_val p ∷ [])) (λ vss. (tt, (tt, ((λ uss. (tt, tt)), tt))))
      ((ptr_val p ∷ [], (vstruct vnil ∷ [], tt)), (refl, (refl, ((tt, (refl, tt)), tt))))
