-- `leave` is one step on the word.
use Rattle.std.proofs.Common.{◌≡◌, ℕ, ◌+◌, ◌%◌, ◌^◌, ◌<◌, List, [], ◌∷◌, refl, ap, lit<, w64}
use mathlib.Core.List.{IsPrefix}
use mir.Syntax.{named}
use mir.Val.{Val, vint, vptr}
use base.Fraction.{full_share}
use base.Logic.{SProp, emp, guard_i}
use base.Fml.{Fml, ftrue, flft}
use types.Logic.{sem}
use types.Kit.{‵, raw, ◌⊛◌, given, mean, at_ret, ◌$◌, ◌∵◌, !, qed, by, move, keep, drop, split, join, fsplit, fsplit3, fjoin, fjoin3, fpick, learn, feq_i, flt_i, use0, use1, use2, use3, rewrite}
use types.Run.{stop, fld, load, lit, of_opd, no_more, and_then, first, blocks, exec, Calls-last, returns, enter}
use types.ByLocal.{alloc_all, pass_all, free_all, look_at, get, through, sets, lands_last, is, env}
use types.Part.{agg, sub, whole, look_in}
use contract.Monad.{fact, fact_i, fact_use}
use contract.Running.{tables}
use denote.Exit.{yes}
use denote.RattleType.{RattleType, owns}
use denote.Signature.{types_at, plain}
use denote.RawPtr.{Ptr, block_ptr, ptr_val, block_of, count_of, at_block}
use denote.Laws.{Is, shows}
use denote.Memory.{cell_at}
use denote.Builtin.{u64}
use denote.Ref.{mut_vals, mut_Tells}
use denote.Plain.{uint_vals, uint_Tells}
use denote.Steps.{nothing, peeks, opens, closes}
use denote.Triple.Walked.{Stays, stay_dropped, stay_ref, walk_of, Goes-dropped, Goes-ref}
use Rattle.core.proofs.atomic.Steps.{tail as rest_of}
use Rattle.core.specs.Sync.RawAtomic.{asks, always}
use Rattle.atomic_table.proofs.Walks.{proved, leaves}
use Rattle.atomic_table.proofs.Calls.{seq_cst, fm, found, finds, adds}
use Rattle.seg_block.specs.Memory.{IsPlaced}
use Rattle.seg_block.specs.Rule.{Names, gate_owns, known_owns, last, gone}
use Rattle.seg_block.specs.Gates.{SameGate, IsKnownOf}
use Rattle.seg_block.specs.contracts.gate.Gate as Gate
use Rattle.seg_block.specs.contracts.run.Run as Run
use Rattle.seg_block.specs.contracts.known.Known as Known
use Rattle.seg_block.proofs.Fields.{none, one, GateData, KnownData, gate_told, run_told, known_told, gate_made, known_made}
use Rattle.seg_block.proofs.Values.{pair_val, pair_made}
use Rattle.seg_block.proofs.Parts.{placed}
use Rattle.seg_block.proofs.Places.{Gives, leaves_at}
use Rattle.seg_block.proofs.Leaves.{leaving}
use Rattle.seg_block.specs.contracts.gate.Gate.leave.{ended, clauses}
use Rattle.seg_block.specs.contracts.gate.Gate.leave.Key.{name as #self}
use Rattle.seg_block.proofs.gate.Gate.leave.Statement.{statement}
use Rattle.seg_block.proofs.gate.Gate.leave.Code as code

pub leave_spec : {M : Type 1} → statement M
leave_spec 𝓤 𝓛 𝓜 𝓡 wired =
    let H = 𝓛.H in let 𝓣 = tables 𝓤 H 𝓜 𝓡 𝓡.env in let fn = code.function in let Row : RattleType = Gate.the_row in let self = plain (λ _. Row) in let given_run = plain (λ _. Run.the_row) in let given_known = plain (λ _. Known.the_row) in let number = plain (λ _. u64) in
    let c = clauses 𝓛 𝓜.mem 𝓡.returns in
    let hs : Stays ended.signature.params ended.kept = (stay_ref (0 ∷ []) tt self, (stay_dropped given_run yes, (stay_dropped given_known yes, (stay_dropped number yes, tt)))) in
    proved 𝓛 ended hs c 𝓜 𝓡 (Goes-ref 𝓛 1 0 tt self, (Goes-dropped 𝓛 1 given_run yes (λ κs x f. refl), (Goes-dropped 𝓛 1 given_known yes (λ κs x f. refl), (Goes-dropped 𝓛 1 number yes (λ κs x f. refl), tt)))) #self fn (code.unfolded 𝓤 H 𝓜 𝓡 wired)
    (λ κs. (mut_vals, ((λ x. none ∷ []), ((λ x. none ∷ []), (uint_vals w64, tt))))) (λ κs. (mut_Tells (named 0) κs.0 Row, ((λ x vs is. run_told vs is.0), ((λ x vs is. known_told vs is.0), (uint_Tells w64, tt))))) (λ κs qs bounds a gh are.
    let b : ℕ = a.0.ref_ptr.0 in let o : ℕ = a.0.ref_ptr.1 in let h : Row.Denot = a.0.now in let w : Ptr = h.base in let z : Names = h.names in let log : List ℕ = h.log in
    let p : Ptr = a.1.0.ptr in let items : List ℕ = a.1.0.items in let k : Known.the_row.Denot = a.1.1.0 in let bit : ℕ = a.1.1.1.0 in let us : List Val = one w ∷ [] in
    let Sat : ℕ → List ℕ → Fml = gate_owns w z in let Now : Fml = Sat h.role log in let Data : Fml = GateData.own_val (w, tt) us in
    let out : ℕ → Fml = leaving 𝓛 w z h.role log k.first in let change : ℕ → ℕ = λ n. (n + bit) % 2 ^ 64 in
    let Step : SProp 𝓤 = asks 𝓛 (block_ptr (block_of w) (count_of w)) change always out in
    let Learnt : Ptr × Names → Fml = λ r. known_owns r.0 r.1 k.log k.first in
    let y : (walk_of 𝓛 ended hs c).Ghost = ((κs, qs, bounds, a, (vptr b o ∷ [], (none ∷ [], (none ∷ [], (vint w64 bit ∷ [], tt))))), gh) in let Post : Val → SProp 𝓤 = (walk_of 𝓛 ended hs c).post y in
    qed 𝓛 (((‵ (flft κs.0 qs.0) ⊛ ‵ ftrue) ⊛ ‵ (owns (types_at ended.signature.params κs) a y.0.4))
    ∷ given (IsKnownOf h k × Gives w z h.role log p items bit) (‵ ftrue) ∷ []) ∵
    move ! (1 ∷ []) $ learn ! (λ asked. drop ! $ split ! $ split ! $ move ! (2 ∷ []) $ fsplit3 ! $ fsplit3 ! $ move ! (3 ∷ []) $ fsplit ! $
    -- [data of the run; the run; an equation; two parts of self; what is known; the token; nothing]
    move ! (5 ∷ []) $ fsplit ! $ fsplit ! $
    -- [data of known; what is known; the bit; data of the run; the run; an equation; two parts of self; the token; nothing]
    keep ! (6 ∷ 7 ∷ 8 ∷ 9 ∷ 4 ∷ 1 ∷ []) $
    enter ! 𝓣.C 𝓣.Λ fn (vptr b o ∷ none ∷ none ∷ vint w64 bit ∷ []) Post $ alloc_all ! (λ l. pass_all ! refl ((tt, tt), ((tt, tt), ((tt, tt), ((tt, record { fits = are.1.1.1.0.1 }), tt)))) $ let Ev = env fn.locals l in
    opens ! tt Row b o (λ vs. move ! (1 ∷ []) $ fsplit ! $ peeks ! GateData (Is GateData) (shows 𝓛 GateData) (w, tt) vs (λ is-so. let ev : vs ≡ us = gate_told w vs is-so in
    drop ! $ rewrite ! 1 (λ (ws : List Val). ‵ (cell_at full_share Row.mir ws b o)) ev refl $
    use1 𝓛 (given (IsPlaced w z.size) (‵ Now)) (fact_use 𝓤 _ (placed 𝓛 w z h.role log) (guard_i 𝓤 (IsPlaced w z.size) (sem 𝓛 Now))) $ learn ! (λ at.
    let same : Path (Ptr × Names) (k.base, k.names) (w, z) = λ i. (asked.0.0 i, asked.0.1 i) in
    -- [the gate; the cell; three of the open borrow; nothing; the run; what is known]
    rewrite ! 7 (λ (r : Ptr × Names). ‵ (Learnt r)) same refl $
    move ! (0 ∷ 6 ∷ 7 ∷ []) $ use3 𝓛 (raw Step) (leaves_at 𝓛 w z h.role log p items k.log k.first bit at asked.1) $ first ! $ blocks ! $
    sets ! (is ! (of_opd ! (load ! (through ! refl (fld ! refl (stop !))) (look_in ! 1 (sub ! 0 refl (whole !))))) (ap ptr_val (at_block w at.0))) refl (tt, tt) $
    use1 𝓛 (raw (𝓣.C _ (vptr (block_of w) (count_of w) ∷ vint w64 bit ∷ seq_cst ∷ []) (λ u. mean 𝓛 (found out u))))
    (adds 𝓛 𝓜 𝓡 (code.calls-core::raw_atomic::fetch_add 𝓡.env wired) (block_ptr (block_of w) (count_of w)) bit are.1.1.1.0.1 out) $
    sets ! (agg ! (and_then ! (lit ! tt) (no_more !))) refl (tt, (record { fits = lit< tt }, tt)) $
    Calls-last ! (fm 𝓛 𝓜 𝓡) (found out) (and_then ! (get ! refl) (and_then ! (get ! refl) (and_then ! (get ! refl) (no_more !)))) (λ u. finds ! out (λ n fits.
    lands_last ! refl (tt, record { fits = fits }) $ exec ! 𝓣.C 𝓣.Λ Ev (rest_of fn.body) (at_ret Ev Post) $
    sets ! (of_opd ! (get ! refl)) refl (tt, record { fits = fits }) $ sets ! (agg ! (no_more !)) refl (tt, tt) $ sets ! (agg ! (and_then ! (get ! refl) (and_then ! (get ! refl) (no_more !)))) refl (tt, (record { fits = fits }, (tt, tt))) $
    -- [what the step left; the cell; three of the open borrow; nothing]
    fpick ! (λ (l : ℕ × List ℕ). fsplit ! $ fpick ! (λ so. drop ! $ fsplit ! $
    let h' : Row.Denot = record { base = w; names = z; role = l.0; log = log } in
    use0 𝓛 (‵ Data) (gate_made 𝓛 w) $ fjoin ! $
    -- [the gate; what is known; the cell; ..]
    move ! (2 ∷ 0 ∷ 3 ∷ 4 ∷ 5 ∷ []) $ closes ! tt Row h' us b o $ feq_i ! (List Val) (vptr b o ∷ []) (vptr b o ∷ []) refl $ fjoin3 ! $
    -- [self; the token; what is known; nothing]
    nothing ! $ nothing ! $ fjoin ! $ nothing ! $ fjoin ! $ nothing ! $ fjoin ! $ move ! (1 ∷ 0 ∷ []) $ fjoin ! $
    move ! (1 ∷ 3 ∷ []) $ join ! $
    -- [the tokens; self; what is known]
    move ! (2 ∷ []) $ use0 𝓛 (‵ (KnownData.own_val tt (none ∷ []))) (known_made 𝓛) $ fjoin ! $
    flt_i ! n (2 ^ 64) fits $ feq_i ! (List Val) (vint w64 n ∷ []) (vint w64 n ∷ []) refl $ fjoin ! $
    let r : Known.the_row.Denot = record { base = w; names = z; log = log; first = l.1 } in
    use2 𝓛 (‵ ((denote.Struct.Tuple.Tuple (u64 ∷ Known.the_row ∷ [])).own_val (n, r) (pair_val (vint w64 n) none ∷ []))) (pair_made 𝓛 u64 Known.the_row n r (vint w64 n) none) $
    let Told : Type 0 = SameGate h h' × IsKnownOf h r × (r.log ≡ h.log) × IsPrefix k.first l.1 × (n % 4 ≡ 0 → (l.0 ≡ gone) × (l.1 ≡ h.role ∷ [])) × (0 < n % 4 → l.0 ≡ last) in
    use0 𝓛 (raw (fact 𝓤 Told)) (fact_i 𝓤 Told (emp 𝓤) ((refl, refl), (refl, refl), refl, so.0, so.1, so.2)) $
    returns ! (look_at ! 0 refl) $ free_all ! refl $ keep ! (2 ∷ 3 ∷ 1 ∷ 0 ∷ []) $ by ! (leaves 𝓛 ended hs c y (pair_val (vint w64 n) none) (n, r) (h', (tt, (tt, (tt, tt)))) (tt, (tt, (tt, (tt, tt)))))))))))))))
