-- `open` writes the word, and puts it under the invariant of a new parting.
use Rattle.std.proofs.Common.{ℕ, [], ◌∷◌, false, refl, sym, ap, lit<}
use mir.Val.{Val}
use base.Fraction.{full_share}
use base.Logic.{SProp, emp, guard_i, via}
use base.Fml.{Fml}
use base.Growing.{latest}
use types.Logic.{sem}
use types.Owned.{basic}
use types.Growing.{latest_new}
use types.Tokens.{name_new}
use types.Kit.{‵, raw, ◌⊛◌, some, given, later, at_ret, ◌$◌, ◌∵◌, !, qed, by, move, keep, drop, split, split3, fsplit, fsplit3, fjoin, learn, pick, await, group, use0, use1}
use types.Run.{stop, fld, init, lit, of_opd, no_more, and_then, first, blocks, exec, assigns_last, returns, enter}
use types.ByLocal.{alloc_all, pass_all, free_all, look_at, get, get_in, through, sets, is, env}
use types.Part.{agg, sub, whole}
use contract.Monad.{fact, fact_i, fact_use}
use contract.Running.{tables}
use denote.Exit.{yes}
use denote.RattleType.{RattleType, owns}
use denote.Signature.{types_at, plain}
use denote.RawPtr.{Ptr, ptr_val, at_block}
use denote.Steps.{nothing}
use denote.Triple.Entry.{alive}
use denote.Triple.Walked.{Stays, stay_dropped, walk_of, Goes-dropped}
use Rattle.core.proofs.slots.Bodies.{after as from_on}
use Rattle.atomic_table.proofs.Walks.{proved, leaves}
use Rattle.seg_block.specs.Memory.{place, home_owns, IsPlaced}
use Rattle.seg_block.specs.Rule.{Names, view, log_order, gate_owns, known_owns}
use Rattle.seg_block.specs.Gates.{Opens}
use Rattle.seg_block.specs.contracts.gate.Gate as Gate
use Rattle.seg_block.specs.contracts.home.Home as Home
use Rattle.seg_block.specs.contracts.run.Run as Run
use Rattle.seg_block.specs.contracts.known.Known as Known
use Rattle.seg_block.proofs.Fields.{none, one, one_good, four_good, GateData, RunData, KnownData, home_told, gate_made, run_made, known_made}
use Rattle.seg_block.proofs.Values.{four_val, four_made}
use Rattle.seg_block.proofs.Landing.{housed}
use Rattle.seg_block.proofs.Opening.{named}
use Rattle.seg_block.specs.contracts.home.Home.«open».{ended, clauses}
use Rattle.seg_block.specs.contracts.home.Home.«open».Key.{name as #self}
use Rattle.seg_block.proofs.home.Home.«open».Statement.{statement}
use Rattle.seg_block.proofs.home.Home.«open».Code as code

pub open_spec : {M : Type 1} → statement M
open_spec 𝓤 𝓛 𝓜 𝓡 wired =
    let H = 𝓛.H in let 𝓣 = tables 𝓤 H 𝓜 𝓡 𝓡.env in let fn = code.function in let Row : RattleType = Home.the_row in let self = plain (λ _. Row) in let c = clauses 𝓛 𝓜.mem 𝓡.returns in
    let hs : Stays ended.signature.params ended.kept = (stay_dropped self yes, tt) in
    proved 𝓛 ended hs c 𝓜 𝓡 (Goes-dropped 𝓛 0 self yes (λ κs x f. refl), tt) #self fn (code.unfolded 𝓤 H 𝓜 𝓡 wired)
    (λ κs. ((λ x. one x.base ∷ []), tt)) (λ κs. ((λ x vs is. home_told x.base vs is.0), tt)) (λ κs qs bounds a gh are.
    let h : Row.Denot = a.0 in let w : Ptr = h.base in let n : ℕ = h.size in let Now : Fml = home_owns w n in
    let y : (walk_of 𝓛 ended hs c).Ghost = ((κs, qs, bounds, a, (one w ∷ [], tt)), gh) in let Post : Val → SProp 𝓤 = (walk_of 𝓛 ended hs c).post y in
    qed 𝓛 ((raw (alive 𝓛 ended.signature κs qs) ⊛ ‵ (owns (types_at ended.signature.params κs) a y.0.4)) ∷ raw ((c κs a).requires gh) ∷ []) ∵
    keep ! (0 ∷ []) $ split ! $ move ! (1 ∷ []) $ fsplit ! $ fsplit ! $ keep ! (1 ∷ 3 ∷ []) $
    use1 𝓛 (given (IsPlaced w n) (‵ Now)) (fact_use 𝓤 _ (housed 𝓛 w n) (guard_i 𝓤 (IsPlaced w n) (sem 𝓛 Now))) $ learn ! (λ at. fsplit3 ! $ drop ! $
    -- [room for the word; the way back; the tokens]
    enter ! 𝓣.C 𝓣.Λ fn (one w ∷ []) Post $ alloc_all ! (λ l. pass_all ! refl (one_good w at.0, tt) $ let Ev = env fn.locals l in
    use0 𝓛 (later (some (λ (η : ℕ). ‵ (latest log_order full_share η [])))) (via 𝓤 _ (latest_new log_order 𝓛 []) (basic 𝓛 _)) $ await ! tt $ pick ! (λ θ.
    use0 𝓛 (later (some (λ (η : ℕ). ‵ (latest log_order full_share η [])))) (via 𝓤 _ (latest_new log_order 𝓛 []) (basic 𝓛 _)) $ await ! tt $ pick ! (λ η.
    name_new ! tt (view [] false) (λ δ. name_new ! tt (view [] false) (λ γ.
    -- [the tail's halves; the front's halves; the log; the first; room for the word; the way back; the tokens]
    let z : Names = record { size = n; tail = γ; front = δ; log = η; first = θ } in
    sets ! (is ! (of_opd ! (get_in ! (fld ! refl (stop !)) (sub ! 0 refl (whole !)))) (ap ptr_val (at_block w at.0))) refl (tt, tt) $ first ! $ blocks ! $
    assigns_last ! (of_opd ! (lit ! tt)) (through ! refl (stop !)) (init ! 6 refl (tt, record { fits = lit< tt })) $
    exec ! 𝓣.C 𝓣.Λ Ev (from_on 2 fn.body) (at_ret Ev Post) $
    -- [the tail's halves; the front's halves; the log; the first; the word; the way back; the tokens]
    group ! 8 $ use1 𝓛 (later (‵ (gate_owns w z 0 []) ⊛ ‵ (gate_owns w z 1 []) ⊛ ‵ (known_owns w z [] []))) (named 𝓛 w z at) $ await ! tt $ split3 ! $
    let good = one_good w at.0 in let same = ap one (sym (at_block w at.0)) in
    sets ! (is ! (agg ! (and_then ! (get ! refl) (no_more !))) same) refl good $ sets ! (is ! (agg ! (and_then ! (get ! refl) (no_more !))) same) refl good $
    sets ! (agg ! (no_more !)) refl (tt, tt) $ sets ! (agg ! (no_more !)) refl (tt, tt) $
    sets ! (agg ! (and_then ! (get ! refl) (and_then ! (get ! refl) (and_then ! (get ! refl) (and_then ! (get ! refl) (no_more !)))))) refl (four_good w at.0) $
    let g : ℕ → Gate.the_row.Denot = λ role. record { base = w; names = z; role = role; log = [] } in let k : Known.the_row.Denot = record { base = w; names = z; log = []; first = [] } in let r : Run.the_row.Denot = record { ptr = place w 0; items = [] } in
    -- [the tail; the front; what is known; the tokens]
    use0 𝓛 (‵ (GateData.own_val (w, tt) (one w ∷ []))) (gate_made 𝓛 w) $ fjoin ! $ move ! (1 ∷ []) $ use0 𝓛 (‵ (GateData.own_val (w, tt) (one w ∷ []))) (gate_made 𝓛 w) $ fjoin ! $
    move ! (2 ∷ []) $ use0 𝓛 (‵ (KnownData.own_val tt (none ∷ []))) (known_made 𝓛) $ fjoin ! $
    nothing ! $ use0 𝓛 (‵ (RunData.own_val tt (none ∷ []))) (run_made 𝓛) $ fjoin ! $ move ! (3 ∷ 2 ∷ 1 ∷ 0 ∷ []) $ group ! 4 $
    use1 𝓛 (‵ ((denote.Struct.Tuple.Tuple (Gate.the_row ∷ Gate.the_row ∷ Known.the_row ∷ Run.the_row ∷ [])).own_val (g 0, g 1, k, r) (four_val (one w) (one w) none none ∷ [])))
    (four_made 𝓛 Gate.the_row Gate.the_row Known.the_row Run.the_row (g 0) (g 1) k r (one w) (one w) none none) $
    let Told : Type 0 = Opens h (g 0) (g 1) k r in let told : Told = record { base = (refl, refl, refl); names = (refl, refl); size = refl; roles = (refl, refl); logs = (refl, refl, refl); empty = (refl, refl) } in
    use0 𝓛 (raw (fact 𝓤 Told)) (fact_i 𝓤 Told (emp 𝓤) told) $ nothing ! $ nothing ! $ fjoin ! $
    returns ! (look_at ! 0 refl) $ free_all ! refl $ keep ! (3 ∷ 0 ∷ 2 ∷ 1 ∷ []) $ by ! (leaves 𝓛 ended hs c y (four_val (one w) (one w) none none) (g 0, g 1, k, r) (tt, tt) (tt, tt)))))))))
