-- `new_halves` makes a name, and hands out its two halves.
use mathlib.Core.Path.{refl}
use mathlib.Core.List.{List, [], ◌∷◌, ◌++◌}
use seplogic.Ra.Ura.{Ura}
use mir.Syntax.{Fn, Dict, dcons, dnil, a_type}
use mir.Val.{Val, vstruct, vcons, vnil, of_list}
use mir.MapTy.{inst_fn}
use base.Logic.{SProp, ent}
use base.Fml.{Fml, ftrue, fsep, feq, flft}
use prog.Wp.{WpFn}
use prog.Model.{Model}
use types.Logic.{Logic}
use types.Tokens.{name_new}
use contract.Running.{Running, MachineTables, tables, tables_of}
use sound.WpLaws.{WpFn-mono}
use types.Kit.{‵, raw, ◌⊛◌, ◌$◌, ◌∵◌, !, qed, move, keep, split, join, fjoin, fjoin3, fpack, suffices, frame, use0, feq_i}
use types.Run.{no_more, and_then, returns, enter}
use types.ByLocal.{alloc_all, pass_all, free_all, look_at, get, sets}
use types.Part.{agg}
use denote.RattleType.{RattleType, Valss, owns}
use denote.Signature.{types_at}
use denote.Steps.{nothing}
use denote.Param.{param, bounded}
use denote.Triple.Clauses.{Clauses, closing}
use denote.Triple.Spec.{Meets, triple_of}
use denote.Triple.Table.{entered}
use denote.Triple.Walked.{Stays, walk_of, ends_at, walk_Meets}
use contract.CodeStep
use Rattle.core.proofs.ledger.Walks.{token, Mark, made, tells, tells_last}
use Rattle.ghost_halves.specs.declared.update.Initial.{Ghosts}
use Rattle.ghost_halves.specs.contracts.halves.SharedHalf as shared
use Rattle.ghost_halves.specs.contracts.halves.PrivateHalf as private
use Rattle.ghost_halves.specs.contracts.halves.new_halves.{ended, clauses}
use Rattle.ghost_halves.specs.contracts.halves.new_halves.Key.{name as #self}
use Rattle.ghost_halves.proofs.halves.new_halves.Statement as stated
use Rattle.ghost_halves.proofs.halves.new_halves.Code as code

module _ (Y : RattleType) (g : Ghosts Y.Denot) (d : Dict) {M : Type 1} {𝓤 : Ura M} (𝓛 : Logic 𝓤) (𝓜 : Model 𝓤 𝓛.H) (𝓡 : Running 𝓤 𝓛.H 𝓜) where
  open 𝓛 use {H}

  abbrev function : Fn
  function = inst_fn (bounded (a_type ∷ []) (Y, tt) (dcons d dnil)) code.function

  abbrev P : RattleType
  P = param 0 Y

  abbrev A : RattleType
  A = shared.the_row P

  abbrev B : RattleType
  B = private.the_row P

  abbrev stayed : Stays (ended Y g d).signature.params (ended Y g d).kept
  stayed = tt

  abbrev 𝓣 : MachineTables 𝓤 H 𝓜
  𝓣 = tables 𝓤 H 𝓜 𝓡 𝓡.env

  abbrev held : Clauses 𝓤 (ended Y g d)
  held = clauses Y g d 𝓛 𝓜.mem 𝓡.returns

  module _ (z : (walk_of 𝓛 (ended Y g d) stayed held).Ghost) where
    abbrev At : (walk_of 𝓛 (ended Y g d) stayed held).Ghost
    At = ((z.0.0, z.0.1, z.0.2, z.0.3, tt), z.1)

    abbrev Goes : Type 1
    Goes = ent 𝓤 ((walk_of 𝓛 (ended Y g d) stayed held).pre At) (WpFn 𝓤 H 𝓣.C 𝓣.Λ function ((walk_of 𝓛 (ended Y g d) stayed held).args At) ((walk_of 𝓛 (ended Y g d) stayed held).post At))

    abbrev args : Fml
    args = owns (types_at (ended Y g d).signature.params z.0.0) z.0.3 tt

    abbrev asked : SProp 𝓤
    asked = (held z.0.0 z.0.3).requires z.1

    walks : Goes
    walks =
        let v : Val = vstruct (vcons token (vcons token vnil)) in
        qed 𝓛 (((‵ (flft z.0.0.0 z.0.1.0) ⊛ ‵ ftrue) ⊛ ‵ args) ∷ raw asked ∷ []) ∵ keep ! (0 ∷ []) $ split ! $ keep ! (0 ∷ []) $
        enter ! 𝓣.C 𝓣.Λ function [] _ $ alloc_all ! (λ l. pass_all ! refl tt $
        name_new ! tt (P.coded.code g.initial) (λ γ. move ! (1 ∷ 0 ∷ []) $
        let shared₀ : A.Denot = record { marker = record {}; name = γ; value = g.initial } in let private₀ : B.Denot = record { marker = record {}; name = γ; value = g.initial } in
        sets ! (agg ! (no_more !)) refl (tt, tt) $ sets ! (agg ! (and_then ! (get ! refl) (no_more !))) refl (tt, (tt, tt)) $ sets ! (agg ! (no_more !)) refl (tt, tt) $ sets ! (agg ! (and_then ! (get ! refl) (no_more !))) refl (tt, (tt, tt)) $
        sets ! (agg ! (and_then ! (get ! refl) (and_then ! (get ! refl) (no_more !)))) refl (tt, ((tt, tt), ((tt, tt), tt))) $
        returns ! (look_at ! 0 refl) $ free_all ! refl $ suffices ! _ (ends_at 𝓛 (ended Y g d) stayed held At v (shared₀, private₀) tt tt) $
        use0 𝓛 (‵ ((Mark (shared.the_type P).name (P ∷ []) P).own_val (tt, tt) (token ∷ []))) (made (shared.the_type P).name (P ∷ []) P 𝓛) $ fjoin ! $ move ! (1 ∷ []) $
        use0 𝓛 (‵ ((Mark (private.the_type P).name (P ∷ []) P).own_val (tt, tt) (token ∷ []))) (made (private.the_type P).name (P ∷ []) P 𝓛) $ fjoin ! $ nothing ! $ move ! (2 ∷ 1 ∷ 0 ∷ []) $ fjoin3 ! $
        feq_i ! (List Val) (v ∷ []) (v ∷ []) refl $ fjoin ! $
        fpack ! (Valss (A ∷ B ∷ [])) (λ vss. fsep (feq (List Val) (v ∷ []) (vstruct (of_list (vss.0 ++ (vss.1.0 ++ []))) ∷ [])) (owns (A ∷ B ∷ []) (shared₀, (private₀, tt)) vss)) (token ∷ [], (token ∷ [], tt)) $
        nothing ! $ join ! $ move ! (1 ∷ 0 ∷ []) $ join ! $ frame ! $ tells ! refl $ tells ! refl $ tells_last ! refl))

  meets : Meets 𝓛 (ended Y g d).signature (WpFn 𝓤 H 𝓣.C 𝓣.Λ function) (closing 𝓛 (ended Y g d) held)
  unfolding tables_of contract.CodeStep.c_Tables
  meets =
      walk_Meets 𝓛 (ended Y g d) stayed tt held
      (WpFn 𝓤 H 𝓣.C 𝓣.Λ function) (WpFn-mono 𝓤 H 𝓛.laws (tables_of 𝓤 H 𝓜 𝓣) function)
      (λ z. walks z)

pub new_halves_spec : {M : Type 1} → stated.statement M
new_halves_spec 𝓤 𝓛 𝓜 𝓡 wired Y laws g d _ = let 𝓣' = tables 𝓤 𝓛.H 𝓜 𝓡 𝓡.env in
    entered 𝓤 𝓛.H (triple_of 𝓛 (ended Y g d).signature (closing 𝓛 (ended Y g d) (held Y g d 𝓛 𝓜 𝓡))) 𝓣'.C 𝓣'.Λ (#self (bounded (a_type ∷ []) (Y, tt) (dcons d dnil))) (function Y g d 𝓛 𝓜 𝓡)
    (code.unfolded 𝓤 𝓛.H 𝓜 𝓡 wired (Y, tt) d) (meets Y g d 𝓛 𝓜 𝓡)
