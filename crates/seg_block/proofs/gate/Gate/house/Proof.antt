-- `house` hands the run to `lodge`.
use Rattle.std.proofs.Common.{◌≡◌, ℕ, ◌+◌, ◌-◌, ◌*◌, ◌≤◌, List, [], ◌∷◌, length, refl, sym, ap, ◌∙◌, subst, arith, w8, w64, Vec}
use mir.Syntax.{named, ty_int, ty_array}
use mir.Val.{Val, vint, vptr}
use base.Fraction.{full_share}
use base.Logic.{SProp, emp, guard_i}
use base.Fml.{Fml, ftrue, flft, froom}
use types.Logic.{sem}
use types.Kit.{‵, raw, ◌⊛◌, some, given, later, at_ret, ◌$◌, ◌∵◌, !, qed, by, move, keep, drop, split, join, fsplit, fsplit3, fjoin, fjoin3, learn, pick, await, use0, use1, use2, rewrite, feq_i}
use types.Run.{stop, fld, load, lit, of_opd, bin, no_more, and_then, first, blocks, exec, returns, enter}
use types.ByLocal.{alloc_all, pass_all, free_all, look_at, get, through, sets, lands_last, is, env}
use types.Part.{sub, whole, look_in}
use contract.Monad.{fact, fact_i, fact_use}
use contract.Running.{tables}
use denote.Exit.{yes}
use denote.RattleType.{RattleType, owns}
use denote.Signature.{types_at, plain}
use denote.RawPtr.{Ptr, ptr_val, block_of, count_of, at_block}
use denote.Laws.{Is, shows}
use denote.Memory.{cell_at}
use denote.Builtin.{u8, usize}
use denote.Ref.{mut_vals, mut_Tells}
use denote.Plain.{uint_vals, uint_Tells}
use denote.Steps.{nothing, peeks, opens, closes, only}
use denote.Triple.Call.{calls_at_last}
use denote.Triple.Walked.{Stays, stay_dropped, stay_ref, walk_of, Goes-dropped, Goes-ref}
use Rattle.core.proofs.atomic.Steps.{tail as rest_of}
use Rattle.std_alloc.specs.declared.vec.lodged.Lodged.{Lodged}
use Rattle.std_alloc.proofs.vec.lodge.Met as callee
use Rattle.atomic_table.proofs.Walks.{proved, leaves}
use Rattle.atomic_table.proofs.Calls.{fm}
use Rattle.seg_block.specs.Memory.{place, bytes_at, IsPlaced}
use Rattle.seg_block.specs.Rule.{Names, gate_owns}
use Rattle.seg_block.specs.contracts.gate.Gate as Gate
use Rattle.seg_block.specs.contracts.run.Run as Run
use Rattle.seg_block.proofs.Fields.{none, one, GateData, gate_told, gate_made, run_told}
use Rattle.seg_block.proofs.Parts.{placed}
use Rattle.seg_block.proofs.Places.{run_out, placed_at}
use Rattle.seg_block.proofs.Lodging.{Housed, Good, byte_laws, tells, Lodges, at_lodge, IsLodged, lodge_goes, lodge_gives}
use Rattle.seg_block.specs.contracts.gate.Gate.house.{ended, clauses}
use Rattle.seg_block.specs.contracts.gate.Gate.house.Key.{name as #self}
use Rattle.seg_block.proofs.gate.Gate.house.Statement.{statement}
use Rattle.seg_block.proofs.gate.Gate.house.Code as code

pub house_spec : {M : Type 1} → statement M
house_spec 𝓤 𝓛 𝓜 𝓡 wired =
    let H = 𝓛.H in let 𝓣 = tables 𝓤 H 𝓜 𝓡 𝓡.env in let fn = code.function in let Row : RattleType = Gate.the_row in let self = plain (λ _. Row) in let number = plain (λ _. usize) in let given_run = plain (λ _. Run.the_row) in
    let c = clauses 𝓛 𝓜.mem 𝓡.returns in
    let hs : Stays ended.signature.params ended.kept = (stay_ref (0 ∷ []) tt self, (stay_dropped number yes, (stay_dropped number yes, (stay_dropped given_run yes, tt)))) in
    let goes = Goes-dropped 𝓛 1 number yes (λ κs x f. refl) in
    proved 𝓛 ended hs c 𝓜 𝓡 (Goes-ref 𝓛 1 0 tt self, (goes, (goes, (Goes-dropped 𝓛 1 given_run yes (λ κs x f. refl), tt)))) #self fn (code.unfolded 𝓤 H 𝓜 𝓡 wired)
    (λ κs. (mut_vals, (uint_vals w64, (uint_vals w64, ((λ x. none ∷ []), tt))))) (λ κs. (mut_Tells (named 0) κs.0 Row, (uint_Tells w64, (uint_Tells w64, ((λ x vs is. run_told vs is.0), tt))))) (λ κs qs bounds a gh are.
    let b : ℕ = a.0.ref_ptr.0 in let o : ℕ = a.0.ref_ptr.1 in let h : Row.Denot = a.0.now in let w : Ptr = h.base in let z : Names = h.names in
    let from : ℕ = a.1.0 in let len : ℕ = a.1.1.0 in let p : Ptr = a.1.1.1.0.ptr in let xs : List ℕ = a.1.1.1.0.items in let us : List Val = one w ∷ [] in
    let Now : Fml = gate_owns w z h.role h.log in let Data : Fml = GateData.own_val (w, tt) us in
    let y : (walk_of 𝓛 ended hs c).Ghost = ((κs, qs, bounds, a, (vptr b o ∷ [], (vint w64 from ∷ [], (vint w64 len ∷ [], (none ∷ [], tt))))), gh) in let Post : Val → SProp 𝓤 = (walk_of 𝓛 ended hs c).post y in
    qed 𝓛 (((‵ (flft κs.0 qs.0) ⊛ ‵ ftrue) ⊛ ‵ (owns (types_at ended.signature.params κs) a y.0.4))
    ∷ given ((p ≡ place w from) × (length xs ≡ len) × (from + len ≤ z.size)) (‵ ftrue) ∷ []) ∵
    move ! (1 ∷ []) $ learn ! (λ asked. drop ! $ split ! $ split ! $ move ! (2 ∷ []) $ fsplit3 ! $ fsplit3 ! $
    -- [an equation; two parts of self; the first number; the others; the token; nothing]
    move ! (4 ∷ []) $ fsplit3 ! $ move ! (1 ∷ []) $ fsplit ! $
    -- [data of the run; the run; ..]
    keep ! (5 ∷ 6 ∷ 8 ∷ 9 ∷ 1 ∷ []) $
    enter ! 𝓣.C 𝓣.Λ fn (vptr b o ∷ vint w64 from ∷ vint w64 len ∷ none ∷ []) Post $
    alloc_all ! (λ l. pass_all ! refl ((tt, tt), ((tt, record { fits = are.1.0.1 }), ((tt, record { fits = are.1.1.0.1 }), ((tt, tt), tt)))) $ let Ev = env fn.locals l in
    opens ! tt Row b o (λ vs. move ! (1 ∷ []) $ fsplit ! $ peeks ! GateData (Is GateData) (shows 𝓛 GateData) (w, tt) vs (λ is-so. let ev : vs ≡ us = gate_told w vs is-so in
    drop ! $ rewrite ! 1 (λ (ws : List Val). ‵ (cell_at full_share Row.mir ws b o)) ev refl $
    use1 𝓛 (given (IsPlaced w z.size) (‵ Now)) (fact_use 𝓤 _ (placed 𝓛 w z h.role h.log) (guard_i 𝓤 (IsPlaced w z.size) (sem 𝓛 Now))) $ learn ! (λ at.
    -- [the gate; the cell; three of the open borrow; nothing; the run]
    let bw : ℕ = block_of w in let e : ℕ = count_of w + (8 + from) in let byte = ty_int w8 in let near = asked.2 in let small = at.1.1 in let spare : 0 ≡ len - len = omega arith in
    let there : from + (8 + count_of w) ≡ e = omega arith in
    move ! (6 ∷ []) $ use1 𝓛 (‵ (bytes_at w from xs)) (run_out 𝓛 w from xs p at.0 asked.0) $
    use0 𝓛 (‵ (froom (ty_array byte 0) bw (e + len * 1))) (𝓛.laws.room_nil byte bw (e + len * 1)) $ rewrite ! 0 (λ (k : ℕ). ‵ (froom (ty_array byte k) bw (e + len * 1))) spare refl $
    -- [room for nothing; the bytes; the gate; the cell; three of the open borrow; nothing]
    first ! $ blocks ! $
    sets ! (is ! (of_opd ! (load ! (through ! refl (fld ! refl (stop !))) (look_in ! 3 (sub ! 0 refl (whole !))))) (ap ptr_val (at_block w at.0))) refl (tt, tt) $
    sets ! (bin ! (get ! refl) (lit ! tt) tt) refl (tt, tt) $ sets ! (of_opd ! (get ! refl)) refl (tt, tt) $
    sets ! (is ! (bin ! (get ! refl) (get ! refl) tt) (ap (λ (k : ℕ). vptr bw k) there)) refl (tt, tt) $
    let t = at_lodge 𝓛 𝓜.mem 𝓡.returns bw e len len xs in let Lodge = Lodges 𝓛 𝓜.mem 𝓡.returns in let IsSo : Vec ℕ Lodged → Type 0 = IsLodged 𝓛 𝓜.mem 𝓡.returns bw e len len xs in
    move ! (1 ∷ 0 ∷ []) $ use2 𝓛 (raw (Lodge.pre t)) (lodge_goes 𝓛 𝓜.mem 𝓡.returns bw e len len xs asked.1 (omega arith) (omega arith) (e + len * 1) refl) $
    calls_at_last ! (fm 𝓛 𝓜 𝓡) Lodge (callee.met 𝓤 𝓛 𝓜 𝓡 (code.calls-std_alloc::vec::lodge 𝓡.env wired) u8 byte_laws) t (and_then ! (get ! refl) (and_then ! (get ! refl) (and_then ! (get ! refl) (no_more !)))) (λ v.
    use1 𝓛 (later (some (λ (r : Vec ℕ Lodged). given (IsSo r) (‵ (Housed.own_val r (v ∷ [])))))) (lodge_gives 𝓛 𝓜.mem 𝓡.returns bw e len len xs v) $ await ! tt $ pick ! (λ r. learn ! (λ so. tells ! r (v ∷ []) (λ u same good.
    let fine : Good v = subst Good (sym (ap only same)) good in rewrite ! 0 (λ (x : Val). ‵ (Housed.own_val r (x ∷ []))) (sym (ap only same)) refl $
    lands_last ! refl fine $ exec ! 𝓣.C 𝓣.Λ Ev (rest_of fn.body) (at_ret Ev Post) $ sets ! (of_opd ! (get ! refl)) refl fine $
    -- [the vector; the gate; the cell; three of the open borrow; nothing]
    move ! (1 ∷ []) $ use0 𝓛 (‵ Data) (gate_made 𝓛 w) $ fjoin ! $ move ! (2 ∷ 0 ∷ 3 ∷ 4 ∷ 5 ∷ []) $ closes ! tt Row h us b o $ feq_i ! (List Val) (vptr b o ∷ []) (vptr b o ∷ []) refl $ fjoin3 ! $
    -- [self; the token; the vector; nothing]
    nothing ! $ nothing ! $ fjoin ! $ nothing ! $ fjoin ! $ nothing ! $ fjoin ! $ move ! (1 ∷ 0 ∷ []) $ fjoin ! $ move ! (1 ∷ 3 ∷ []) $ join ! $
    let Told : Type 0 = (h ≡ h) × (r.items ≡ xs) × (r.len ≡ len) × (r.ptr ≡ place w from) in
    use0 𝓛 (raw (fact 𝓤 Told)) (fact_i 𝓤 Told (emp 𝓤) (refl, so.0, so.1, so.3 ∙ sym (placed_at 𝓛 w from at.0))) $
    returns ! (look_at ! 0 refl) $ free_all ! refl $ keep ! (1 ∷ 2 ∷ 3 ∷ 0 ∷ []) $ by ! (leaves 𝓛 ended hs c y v r (h, (tt, (tt, (tt, tt)))) (tt, (tt, (tt, (tt, tt)))))))))))))))
