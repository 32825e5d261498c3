-- `agree` opens the invariant once, with both ends at hand.
use Rattle.std.proofs.Common.{◌≡◌, ℕ, List, [], ◌∷◌, refl, sym}
use mathlib.Core.List.{IsPrefix}
use mir.Syntax.{named}
use mir.Val.{Val, vunit, vptr}
use base.Logic.{SProp, emp}
use base.Fml.{Fml, ftrue, flft}
use types.Kit.{‵, raw, ◌⊛◌, given, later, ◌$◌, ◌∵◌, !, qed, by, move, keep, drop, split, split3, join, fsplit, fsplit3, fjoin, fjoin3, learn, await, use0, use2, rewrite, feq_i}
use types.Run.{of_opd, unit_lit, returns, enter}
use types.ByLocal.{alloc_all, pass_all, free_all, look_at, sets}
use contract.Monad.{fact, fact_i}
use contract.Running.{tables}
use denote.RattleType.{RattleType, owns}
use denote.Signature.{types_at, plain}
use denote.RawPtr.{Ptr}
use denote.Ref.{mut_vals, mut_Tells}
use denote.Steps.{nothing, opens, closes}
use denote.Triple.Walked.{Stays, stay_ref, walk_of, Goes-ref}
use Rattle.atomic_table.proofs.Walks.{proved, leaves}
use Rattle.seg_block.specs.Rule.{Names, gate_owns}
use Rattle.seg_block.specs.Gates.{SameGate}
use Rattle.seg_block.specs.contracts.gate.Gate as Gate
use Rattle.seg_block.proofs.Beside.{agrees}
use Rattle.seg_block.specs.contracts.gate.Gate.agree.{ended, clauses}
use Rattle.seg_block.specs.contracts.gate.Gate.agree.Key.{name as #self}
use Rattle.seg_block.proofs.gate.Gate.agree.Statement.{statement}
use Rattle.seg_block.proofs.gate.Gate.agree.Code as code

pub agree_spec : {M : Type 1} → statement M
agree_spec 𝓤 𝓛 𝓜 𝓡 wired =
    let H = 𝓛.H in let 𝓣 = tables 𝓤 H 𝓜 𝓡 𝓡.env in let fn = code.function in let Row : RattleType = Gate.the_row in let self = plain (λ _. Row) in let c = clauses 𝓛 𝓜.mem 𝓡.returns in
    let hs : Stays ended.signature.params ended.kept = (stay_ref (0 ∷ []) tt self, (stay_ref (1 ∷ []) tt self, tt)) in
    proved 𝓛 ended hs c 𝓜 𝓡 (Goes-ref 𝓛 2 0 tt self, (Goes-ref 𝓛 2 1 tt self, tt)) #self fn (code.unfolded 𝓤 H 𝓜 𝓡 wired)
    (λ κs. (mut_vals, (mut_vals, tt))) (λ κs. (mut_Tells (named 0) κs.0 Row, (mut_Tells (named 1) κs.1.0 Row, tt))) (λ κs qs bounds a gh are.
    let b : ℕ = a.0.ref_ptr.0 in let o : ℕ = a.0.ref_ptr.1 in let h : Row.Denot = a.0.now in let w : Ptr = h.base in let z : Names = h.names in
    let b' : ℕ = a.1.0.ref_ptr.0 in let o' : ℕ = a.1.0.ref_ptr.1 in let k : Row.Denot = a.1.0.now in
    let There : ℕ × Ptr × Names → Fml = λ r. gate_owns r.1 r.2 r.0 k.log in let Here : ℕ → Fml = λ r. gate_owns w z r h.log in
    let y : (walk_of 𝓛 ended hs c).Ghost = ((κs, qs, bounds, a, (vptr b o ∷ [], (vptr b' o' ∷ [], tt))), gh) in let Post : Val → SProp 𝓤 = (walk_of 𝓛 ended hs c).post y in
    qed 𝓛 (((‵ (flft κs.0 qs.0) ⊛ ‵ (flft κs.1.0 qs.1.0) ⊛ ‵ ftrue) ⊛ ‵ (owns (types_at ended.signature.params κs) a y.0.4))
    ∷ given ((h.role ≡ 0) × (k.role ≡ 1) × SameGate h k) (‵ ftrue) ∷ []) ∵
    move ! (1 ∷ []) $ learn ! (λ asked. drop ! $ split ! $ split3 ! $ move ! (3 ∷ []) $ fsplit3 ! $ fsplit3 ! $ move ! (3 ∷ []) $ fsplit3 ! $
    -- [an equation; two parts of the other; an equation; two parts of self; nothing; the two tokens; nothing]
    keep ! (1 ∷ 2 ∷ 8 ∷ 4 ∷ 5 ∷ 7 ∷ 9 ∷ []) $
    let same : Path (ℕ × Ptr × Names) (k.role, k.base, k.names) (1, w, z) = λ i. (asked.1 i, asked.2.0 i, asked.2.1 i) in
    enter ! 𝓣.C 𝓣.Λ fn (vptr b o ∷ vptr b' o' ∷ []) Post $ alloc_all ! (λ l. pass_all ! refl ((tt, tt), ((tt, tt), tt)) $
    opens ! tt Row b' o' (λ vs'. move ! (1 ∷ []) $ fsplit ! $
    -- [data of the other; the other; its cell; three of its open borrow; two parts of self; its token; nothing]
    rewrite ! 1 (λ (r : ℕ × Ptr × Names). ‵ (There r)) same refl $ move ! (6 ∷ 7 ∷ 8 ∷ []) $
    opens ! tt Row b o (λ vs. move ! (1 ∷ []) $ fsplit ! $
    -- [data of self; self; its cell; three of its open borrow; data of the other; the other; its cell; three of its open borrow; nothing]
    rewrite ! 1 (λ (r : ℕ). ‵ (Here r)) asked.0 refl $ move ! (1 ∷ 7 ∷ []) $
    use2 𝓛 (later (given (IsPrefix k.log h.log) (‵ (Here 0) ⊛ ‵ (There (1, w, z))))) (agrees 𝓛 w z h.log k.log) $ await ! tt $ learn ! (λ within. split ! $
    -- [self; the other; data of self; its cell; three of its open borrow; data of the other; its cell; three of its open borrow; nothing]
    rewrite ! 0 (λ (r : ℕ). ‵ (Here r)) (sym asked.0) refl $ rewrite ! 1 (λ (r : ℕ × Ptr × Names). ‵ (There r)) (sym same) refl $
    move ! (2 ∷ 0 ∷ []) $ fjoin ! $ move ! (2 ∷ 0 ∷ 3 ∷ 4 ∷ 5 ∷ []) $ closes ! tt Row h vs b o $ feq_i ! (List Val) (vptr b o ∷ []) (vptr b o ∷ []) refl $ fjoin3 ! $
    -- [self; its token; the other; data of the other; its cell; three of its open borrow; nothing]
    move ! (3 ∷ 2 ∷ []) $ fjoin ! $ move ! (3 ∷ 0 ∷ 4 ∷ 5 ∷ 6 ∷ []) $ closes ! tt Row k vs' b' o' $ feq_i ! (List Val) (vptr b' o' ∷ []) (vptr b' o' ∷ []) refl $ fjoin3 ! $
    -- [the other; its token; self; its token; nothing]
    nothing ! $ move ! (1 ∷ 0 ∷ []) $ fjoin ! $ move ! (2 ∷ 0 ∷ []) $ fjoin ! $ move ! (1 ∷ 3 ∷ []) $ join ! $ move ! (2 ∷ 0 ∷ []) $ join ! $
    -- [the tokens; the ends]
    sets ! (of_opd ! (unit_lit !)) refl (tt, tt) $ feq_i ! (List Val) (vunit ∷ []) (vunit ∷ []) refl $
    let Told : Type 0 = (h ≡ h) × (k ≡ k) × IsPrefix k.log h.log in use0 𝓛 (raw (fact 𝓤 Told)) (fact_i 𝓤 Told (emp 𝓤) (refl, refl, within)) $
    returns ! (look_at ! 0 refl) $ free_all ! refl $ keep ! (2 ∷ 3 ∷ 1 ∷ 0 ∷ []) $ by ! (leaves 𝓛 ended hs c y vunit tt (h, (k, tt)) (tt, (tt, tt)))))))))
