-- The data fields of the crate's own structs. Assumes `Logic`.
use Rattle.std.proofs.Common.{◌≡◌, Bool, true, false, ◌&&◌, T, List, [], ◌∷◌, ◌++◌, refl, ap, ◌∙◌}
use seplogic.Ra.Ura.{Ura}
use mir.Syntax.{ty_ptr, ty_struct, tcons, tnil}
use mir.Val.{Val, vstruct, vcons, vnil, of_list, has_ty, WT}
use base.Logic.{ent, emp}
use types.Logic.{Logic, sem}
use denote.RattleType.{RattleType}
use denote.Laws.{Is}
use denote.RawPtr.{Ptr, block_ptr, null_ptr, ptr_val, InBlock}
use denote.Shadow.{makes_shadow}
use denote.Struct.Struct.{Struct}
use denote.Struct.Owning.{shape}
use Rattle.seg_block.specs.contracts.gate.Gate as Gate
use Rattle.seg_block.specs.contracts.home.Home as Home
use Rattle.seg_block.specs.contracts.run.Run as Run
use Rattle.seg_block.specs.contracts.known.Known as Known

-- a struct with no field at run time
abbrev pub none : Val
none = vstruct vnil

-- a struct of one pointer
abbrev pub one : Ptr → Val
one p = vstruct (vcons (ptr_val p) vnil)

pub one_good : (p : Ptr) → InBlock p → T (has_ty (ty_struct [] (tcons ty_ptr tnil)) (one p)) × WT (one p)
one_good (block_ptr b o) i = (tt, (tt, tt))
one_good null_ptr i = absurd i

pub ptr_good : (p : Ptr) → InBlock p → T (has_ty ty_ptr (ptr_val p)) × WT (ptr_val p)
ptr_good (block_ptr b o) i = (tt, tt)
ptr_good null_ptr i = absurd i

abbrev one_ty : mir.Syntax.Ty
one_ty = ty_struct [] (tcons ty_ptr tnil)

abbrev none_ty : mir.Syntax.Ty
none_ty = ty_struct [] tnil

-- with a struct of no field behind it
pub one_none_good : (p : Ptr) → InBlock p → T (has_ty (ty_struct [] (tcons one_ty (tcons none_ty tnil))) (vstruct (vcons (one p) (vcons none vnil)))) × WT (vstruct (vcons (one p) (vcons none vnil)))
one_none_good (block_ptr b o) i = (tt, ((tt, tt), (tt, tt)))
one_none_good null_ptr i = absurd i

pub four_good : (p : Ptr) → InBlock p → T (has_ty (ty_struct [] (tcons one_ty (tcons one_ty (tcons none_ty (tcons none_ty tnil))))) (vstruct (vcons (one p) (vcons (one p) (vcons none (vcons none vnil)))))) × WT (vstruct (vcons (one p) (vcons (one p) (vcons none (vcons none vnil)))))
four_good (block_ptr b o) i = (tt, ((tt, tt), ((tt, tt), (tt, (tt, tt)))))
four_good null_ptr i = absurd i

pub and_true : (y : Bool) → T y → T (y && true)
and_true true t = tt
and_true false t = absurd t

abbrev pub GateData : RattleType
GateData = Struct (shape Gate.the_type)

abbrev pub HomeData : RattleType
HomeData = Struct (shape Home.the_type)

abbrev pub RunData : RattleType
RunData = Struct (shape Run.the_type)

abbrev pub KnownData : RattleType
KnownData = Struct (shape Known.the_type)

pub gate_told : (p : Ptr) (vs : List Val) → Is GateData (p, tt) vs → vs ≡ one p ∷ []
gate_told p vs is = is.1.0 ∙ ap (λ (ws : List Val). vstruct (of_list (ws ++ [])) ∷ []) is.1.1.0

pub home_told : (p : Ptr) (vs : List Val) → Is HomeData (p, tt) vs → vs ≡ one p ∷ []
home_told p vs is = is.1.0 ∙ ap (λ (ws : List Val). vstruct (of_list (ws ++ [])) ∷ []) is.1.1.0

pub run_told : (vs : List Val) → Is RunData tt vs → vs ≡ none ∷ []
run_told vs is = is.1.0

pub known_told : (vs : List Val) → Is KnownData tt vs → vs ≡ none ∷ []
known_told vs is = is.1.0

module _ {M : Type 1} {𝓤 : Ura M} (𝓛 : Logic 𝓤) where
  pub gate_made : (p : Ptr) → ent 𝓤 (emp 𝓤) (sem 𝓛 (GateData.own_val (p, tt) (one p ∷ [])))
  gate_made p = makes_shadow 𝓛 (GateData.own_val (p, tt) (one p ∷ [])) (λ vss. (tt, (tt, tt))) ((ptr_val p ∷ [], tt), (refl, (refl, tt)))

  pub home_made : (p : Ptr) → ent 𝓤 (emp 𝓤) (sem 𝓛 (HomeData.own_val (p, tt) (one p ∷ [])))
  home_made p = makes_shadow 𝓛 (HomeData.own_val (p, tt) (one p ∷ [])) (λ vss. (tt, (tt, tt))) ((ptr_val p ∷ [], tt), (refl, (refl, tt)))

  pub run_made : ent 𝓤 (emp 𝓤) (sem 𝓛 (RunData.own_val tt (none ∷ [])))
  run_made = makes_shadow 𝓛 (RunData.own_val tt (none ∷ [])) (λ vss. (tt, tt)) (tt, (refl, tt))

  pub known_made : ent 𝓤 (emp 𝓤) (sem 𝓛 (KnownData.own_val tt (none ∷ [])))
  known_made = makes_shadow 𝓛 (KnownData.own_val tt (none ∷ [])) (λ vss. (tt, tt)) (tt, (refl, tt))
