-- How a walk by hand makes a tuple and a `Result`. Assumes `Logic`.
use mathlib.Core.Path.{refl}
use mathlib.Core.List.{List, [], ◌∷◌}
use seplogic.Ra.Ura.{Ura}
use mir.Val.{Val, of_list, vstruct, vcons, vnil}
use base.Logic.{ent, sep}
use types.Logic.{Logic, sem}
use types.Kit.{‵, ◌$◌, ◌∵◌, !, qed, move, fjoin, fpack, feq_i, done}
use types.Match.{live}
use denote.RattleType.{RattleType, Valss, owns}
use denote.Steps.{nothing}
use denote.Struct.Struct.{within}
use denote.Struct.Declared as Declared
use denote.Struct.Tuple.{Tuple, tuple_type}
use denote.Enum.Row.{tagged_with}
use denote.Enum.Enum.{form_of, in_a_row}
use denote.Enum.Declared.{shape}
use Rattle.core.specs.declared.result.Result.TheVariants.{Ok, Err}
use Rattle.core.specs.contracts.result.Result as Answer

abbrev pub pair_val : Val → Val → Val
pair_val u v = vstruct (vcons u (vcons v vnil))

abbrev pub four_val : Val → Val → Val → Val → Val
four_val u v w x = vstruct (vcons u (vcons v (vcons w (vcons x vnil))))

module _ {M : Type 1} {𝓤 : Ura M} (𝓛 : Logic 𝓤) where
  pub pair_made : (R S : RattleType) (x : R.Denot) (y : S.Denot) (u v : Val)
      → ent 𝓤 (sep 𝓤 (sem 𝓛 (R.own_val x (u ∷ []))) (sem 𝓛 (S.own_val y (v ∷ [])))) (sem 𝓛 ((Tuple (R ∷ S ∷ [])).own_val (x, y) (pair_val u v ∷ [])))
  pair_made R S x y u v =
      qed 𝓛 (‵ (R.own_val x (u ∷ [])) ∷ ‵ (S.own_val y (v ∷ [])) ∷ []) ∵
      nothing ! $ move ! (2 ∷ 0 ∷ []) $ fjoin ! $ move ! (1 ∷ 0 ∷ []) $ fjoin ! $ feq_i ! (List Val) (pair_val u v ∷ []) (pair_val u v ∷ []) refl $ fjoin ! $
      fpack ! (Valss (R ∷ S ∷ [])) (within (Declared.shape (tuple_type (R ∷ S ∷ []))) (x, (y, tt)) (pair_val u v ∷ [])) (u ∷ [], (v ∷ [], tt)) $ done !

  pub four_made : (R S P Q : RattleType) (x : R.Denot) (y : S.Denot) (p : P.Denot) (q : Q.Denot) (u v w t : Val)
      → ent 𝓤 (sep 𝓤 (sem 𝓛 (R.own_val x (u ∷ []))) (sep 𝓤 (sem 𝓛 (S.own_val y (v ∷ []))) (sep 𝓤 (sem 𝓛 (P.own_val p (w ∷ []))) (sem 𝓛 (Q.own_val q (t ∷ []))))))
      (sem 𝓛 ((Tuple (R ∷ S ∷ P ∷ Q ∷ [])).own_val (x, y, p, q) (four_val u v w t ∷ [])))
  four_made R S P Q x y p q u v w t =
      qed 𝓛 (‵ (R.own_val x (u ∷ [])) ∷ ‵ (S.own_val y (v ∷ [])) ∷ ‵ (P.own_val p (w ∷ [])) ∷ ‵ (Q.own_val q (t ∷ [])) ∷ []) ∵
      nothing ! $ move ! (4 ∷ 0 ∷ []) $ fjoin ! $ move ! (3 ∷ 0 ∷ []) $ fjoin ! $ move ! (2 ∷ 0 ∷ []) $ fjoin ! $ move ! (1 ∷ 0 ∷ []) $ fjoin ! $
      feq_i ! (List Val) (four_val u v w t ∷ []) (four_val u v w t ∷ []) refl $ fjoin ! $
      fpack ! (Valss (R ∷ S ∷ P ∷ Q ∷ [])) (within (Declared.shape (tuple_type (R ∷ S ∷ P ∷ Q ∷ []))) (x, (y, (p, (q, tt)))) (four_val u v w t ∷ [])) (u ∷ [], (v ∷ [], (w ∷ [], (t ∷ [], tt)))) $ done !

module _ {M : Type 1} {𝓤 : Ura M} (𝓛 : Logic 𝓤) (R R' : RattleType) where
  pub ok_made : (x : R.Denot) (v : Val) → ent 𝓤 (sem 𝓛 (R.own_val x (v ∷ []))) (sem 𝓛 ((Answer.the_row R R').own_val (Ok x) (live 0 (of_list (v ∷ [])) ∷ [])))
  ok_made x v =
      qed 𝓛 (‵ (R.own_val x (v ∷ [])) ∷ []) ∵ nothing ! $ move ! (1 ∷ 0 ∷ []) $ fjoin ! $ feq_i ! (List Val) (v ∷ []) (v ∷ []) refl $ fjoin ! $
      fpack ! (Valss (R ∷ [])) (in_a_row (R ∷ []) (owns (R ∷ []) (x, tt)) (v ∷ [])) (v ∷ [], tt) $
      feq_i ! (List Val) (live 0 (of_list (v ∷ [])) ∷ []) (live 0 (of_list (v ∷ [])) ∷ []) refl $ fjoin ! $
      fpack ! (List Val) (tagged_with (form_of (shape (Answer.the_type R R'))) (form_of (shape (Answer.the_type R R'))).payload ((Answer.the_type R R').to (Ok x)) (live 0 (of_list (v ∷ [])) ∷ [])) (v ∷ []) $ done !

  pub err_made : (x : R'.Denot) (v : Val) → ent 𝓤 (sem 𝓛 (R'.own_val x (v ∷ []))) (sem 𝓛 ((Answer.the_row R R').own_val (Err x) (live 1 (of_list (v ∷ [])) ∷ [])))
  err_made x v =
      qed 𝓛 (‵ (R'.own_val x (v ∷ [])) ∷ []) ∵ nothing ! $ move ! (1 ∷ 0 ∷ []) $ fjoin ! $ feq_i ! (List Val) (v ∷ []) (v ∷ []) refl $ fjoin ! $
      fpack ! (Valss (R' ∷ [])) (in_a_row (R' ∷ []) (owns (R' ∷ []) (x, tt)) (v ∷ [])) (v ∷ [], tt) $
      feq_i ! (List Val) (live 1 (of_list (v ∷ [])) ∷ []) (live 1 (of_list (v ∷ [])) ∷ []) refl $ fjoin ! $
      fpack ! (List Val) (tagged_with (form_of (shape (Answer.the_type R R'))) (form_of (shape (Answer.the_type R R'))).payload ((Answer.the_type R R').to (Err x)) (live 1 (of_list (v ∷ [])) ∷ [])) (v ∷ []) $ done !
