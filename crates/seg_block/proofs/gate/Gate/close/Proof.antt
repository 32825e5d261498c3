-- `close` makes a home and a run of what the last end owns.
use Rattle.std.proofs.Common.{◌≡◌, ℕ, [], ◌∷◌, length, refl}
use mir.Val.{Val}
use base.Logic.{SProp, emp, guard_i}
use base.Fml.{Fml, ftrue}
use types.Logic.{sem}
use types.Kit.{‵, raw, ◌⊛◌, given, ◌$◌, ◌∵◌, !, qed, by, move, keep, drop, split, fsplit, fsplit3, fjoin, fpick, fpack, learn, use0, use1, use2, rewrite}
use types.Run.{stop, fld, of_opd, no_more, and_then, returns, enter}
use types.ByLocal.{alloc_all, pass_all, free_all, look_at, get, get_in, sets}
use types.Part.{agg, sub, whole as all}
use contract.Monad.{fact, fact_i, fact_use}
use contract.Running.{tables}
use denote.Exit.{yes}
use denote.RattleType.{RattleType, owns}
use denote.Signature.{types_at, plain}
use denote.RawPtr.{Ptr}
use denote.Steps.{nothing}
use denote.Triple.Entry.{alive}
use denote.Triple.Walked.{Stays, stay_dropped, walk_of, Goes-dropped}
use Rattle.atomic_table.proofs.Walks.{proved, leaves}
use Rattle.seg_block.specs.Memory.{place, run_owns, IsPlaced}
use Rattle.seg_block.specs.Rule.{Names, gate_owns}
use Rattle.seg_block.specs.contracts.gate.Gate as Gate
use Rattle.seg_block.specs.contracts.home.Home as Home
use Rattle.seg_block.specs.contracts.run.Run as Run
use Rattle.seg_block.proofs.Fields.{none, one, one_good, ptr_good, one_none_good, HomeData, RunData, gate_told, home_made, run_made}
use Rattle.seg_block.proofs.Values.{pair_val, pair_made}
use Rattle.seg_block.proofs.Parts.{placed}
use Rattle.seg_block.proofs.Places.{run_in}
use Rattle.seg_block.specs.contracts.gate.Gate.close.{ended, clauses}
use Rattle.seg_block.specs.contracts.gate.Gate.close.Key.{name as #self}
use Rattle.seg_block.proofs.gate.Gate.close.Statement.{statement}
use Rattle.seg_block.proofs.gate.Gate.close.Code as code

pub close_spec : {M : Type 1} → statement M
close_spec 𝓤 𝓛 𝓜 𝓡 wired =
    let H = 𝓛.H in let 𝓣 = tables 𝓤 H 𝓜 𝓡 𝓡.env in let fn = code.function in let Row : RattleType = Gate.the_row in let self = plain (λ _. Row) in let c = clauses 𝓛 𝓜.mem 𝓡.returns in
    let hs : Stays ended.signature.params ended.kept = (stay_dropped self yes, tt) in
    proved 𝓛 ended hs c 𝓜 𝓡 (Goes-dropped 𝓛 0 self yes (λ κs x f. refl), tt) #self fn (code.unfolded 𝓤 H 𝓜 𝓡 wired)
    (λ κs. ((λ x. one x.base ∷ []), tt)) (λ κs. ((λ x vs is. gate_told x.base vs is.0), tt)) (λ κs qs bounds a gh are.
    let h : Row.Denot = a.0 in let w : Ptr = h.base in let z : Names = h.names in let Sat : ℕ → Fml = λ r. gate_owns w z r h.log in let Now : Fml = Sat h.role in
    let y : (walk_of 𝓛 ended hs c).Ghost = ((κs, qs, bounds, a, (one w ∷ [], tt)), gh) in let Post : Val → SProp 𝓤 = (walk_of 𝓛 ended hs c).post y in
    qed 𝓛 ((raw (alive 𝓛 ended.signature κs qs) ⊛ ‵ (owns (types_at ended.signature.params κs) a y.0.4)) ∷ given (h.role ≡ 2) (‵ ftrue) ∷ []) ∵
    keep ! (1 ∷ 0 ∷ []) $ learn ! (λ asked. drop ! $ split ! $ move ! (1 ∷ []) $ fsplit ! $ fsplit ! $ keep ! (1 ∷ 3 ∷ []) $
    use1 𝓛 (given (IsPlaced w z.size) (‵ Now)) (fact_use 𝓤 _ (placed 𝓛 w z h.role h.log) (guard_i 𝓤 (IsPlaced w z.size) (sem 𝓛 Now))) $ learn ! (λ at.
    rewrite ! 0 (λ (r : ℕ). ‵ (Sat r)) asked refl $ fsplit ! $ drop ! $ fsplit3 ! $
    -- [room for the word; all bytes; the way back; the tokens]
    move ! (0 ∷ 2 ∷ []) $ fjoin ! $ nothing ! $ fpack ! (IsPlaced w z.size) (λ _. ftrue) at $ fjoin ! $ use0 𝓛 (‵ (HomeData.own_val (w, tt) (one w ∷ []))) (home_made 𝓛 w) $ fjoin ! $
    move ! (1 ∷ []) $ fpick ! (λ xs. fsplit ! $ fpick ! (λ long. drop ! $ use1 𝓛 (‵ (run_owns (place w 0) xs)) (run_in 𝓛 w 0 xs at.0) $
    use0 𝓛 (‵ (RunData.own_val tt (none ∷ []))) (run_made 𝓛) $ fjoin ! $ move ! (1 ∷ 0 ∷ []) $
    let home : Home.the_row.Denot = record { base = w; size = z.size } in let run : Run.the_row.Denot = record { ptr = place w 0; items = xs } in
    use2 𝓛 (‵ ((denote.Struct.Tuple.Tuple (Home.the_row ∷ Run.the_row ∷ [])).own_val (home, run) (pair_val (one w) none ∷ []))) (pair_made 𝓛 Home.the_row Run.the_row home run (one w) none) $
    enter ! 𝓣.C 𝓣.Λ fn (one w ∷ []) Post $ alloc_all ! (λ l. pass_all ! refl (one_good w at.0, tt) $
    sets ! (of_opd ! (get_in ! (fld ! refl (stop !)) (sub ! 0 refl (all !)))) refl (ptr_good w at.0) $
    sets ! (agg ! (and_then ! (get ! refl) (no_more !))) refl (one_good w at.0) $ sets ! (agg ! (no_more !)) refl (tt, tt) $
    sets ! (agg ! (and_then ! (get ! refl) (and_then ! (get ! refl) (no_more !)))) refl (one_none_good w at.0) $
    let Told : Type 0 = (w ≡ w) × (z.size ≡ z.size) × (place w 0 ≡ place w 0) × (length xs ≡ z.size) in
    use0 𝓛 (raw (fact 𝓤 Told)) (fact_i 𝓤 Told (emp 𝓤) (refl, refl, refl, long)) $ nothing ! $ nothing ! $ fjoin ! $
    returns ! (look_at ! 0 refl) $ free_all ! refl $ keep ! (3 ∷ 0 ∷ 2 ∷ 1 ∷ []) $ by ! (leaves 𝓛 ended hs c y (pair_val (one w) none) (home, run) (tt, tt) (tt, tt))))))))
