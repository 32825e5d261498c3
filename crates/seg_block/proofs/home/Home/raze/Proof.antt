-- `raze` makes one block of a home and its bytes.
use Rattle.std.proofs.Common.{◌≡◌, ℕ, List, [], ◌∷◌, length, refl}
use mir.Syntax.{named}
use mir.Val.{Val, vptr}
use base.Logic.{SProp, emp, guard_i}
use base.Fml.{Fml, ftrue}
use types.Logic.{sem}
use types.Kit.{‵, raw, ◌⊛◌, given, ◌$◌, ◌∵◌, !, qed, by, move, keep, drop, split, fsplit, fsplit3, fjoin, learn, use0, use1, use2}
use types.Run.{stop, fld, of_opd, no_more, and_then, returns, enter}
use types.ByLocal.{alloc_all, pass_all, free_all, look_at, get, get_in, sets}
use types.Part.{agg, sub, whole}
use contract.Monad.{fact, fact_i, fact_use}
use contract.Running.{tables}
use denote.Exit.{yes}
use denote.RattleType.{RattleType, owns}
use denote.Signature.{types_at, plain}
use denote.Builtin.{RefOf, u64}
use denote.Ref.{shr_vals, shr_Tells}
use denote.RawPtr.{Ptr}
use denote.Steps.{nothing}
use denote.Triple.Entry.{alive}
use denote.Triple.Walked.{Stays, stay_dropped, walk_of, Goes-dropped}
use Rattle.libc.specs.Heap.{chunk}
use Rattle.std_heap.specs.contracts.Global as Global
use Rattle.std_heap.specs.contracts.GlobalAllocator.TheImpl.{ghosts}
use Rattle.atomic_table.proofs.Walks.{proved, leaves}
use Rattle.seg_block.specs.Memory.{place, home_owns, land_owns, words_of, IsPlaced}
use Rattle.seg_block.specs.contracts.home.Home as Home
use Rattle.seg_block.specs.contracts.run.Run as Run
use Rattle.seg_block.specs.contracts.land.Land as Land
use Rattle.seg_block.proofs.Fields.{none, one, one_good, ptr_good, home_told, run_told}
use Rattle.seg_block.proofs.LandFields.{land_val, land_good, LandData, land_made}
use Rattle.seg_block.proofs.Landing.{housed, razes}
use Rattle.seg_block.specs.contracts.home.Home.raze.{ended, clauses}
use Rattle.seg_block.specs.contracts.home.Home.raze.Key.{name as #self}
use Rattle.seg_block.proofs.home.Home.raze.Statement.{statement}
use Rattle.seg_block.proofs.home.Home.raze.Code as code

pub raze_spec : {M : Type 1} → statement M
raze_spec 𝓤 𝓛 𝓜 𝓡 wired =
    let H = 𝓛.H in let 𝓣 = tables 𝓤 H 𝓜 𝓡 𝓡.env in let fn = code.function in let Row : RattleType = Home.the_row in let self = plain (λ _. Row) in let given_run = plain (λ _. Run.the_row) in
    let W : RattleType = Global.the_row in let heap = RefOf (0 ∷ []) tt (plain (λ _. W)) (λ _. tt) in let Out : RattleType = Land.the_row u64 W ghosts in let c = clauses 𝓛 𝓜.mem 𝓡.returns in
    let hs : Stays ended.signature.params ended.kept = (stay_dropped self yes, (stay_dropped given_run yes, (stay_dropped heap yes, tt))) in
    proved 𝓛 ended hs c 𝓜 𝓡 (Goes-dropped 𝓛 1 self yes (λ κs x f. refl), (Goes-dropped 𝓛 1 given_run yes (λ κs x f. refl), (Goes-dropped 𝓛 1 heap yes (λ κs x f. refl), tt))) #self fn (code.unfolded 𝓤 H 𝓜 𝓡 wired)
    (λ κs. ((λ x. one x.base ∷ []), ((λ x. none ∷ []), (shr_vals, tt)))) (λ κs. ((λ x vs is. home_told x.base vs is.0), ((λ x vs is. run_told vs is.0), (shr_Tells (named 0) κs.0 W, tt)))) (λ κs qs bounds a gh are.
    let w : Ptr = a.0.base in let n : ℕ = a.0.size in let p : Ptr = a.1.0.ptr in let items : List ℕ = a.1.0.items in let hp : ℕ × ℕ = a.1.1.0.ref_ptr in let h : W.Denot = a.1.1.0.now in
    let Now : Fml = home_owns w n in let Land : Fml = land_owns chunk u64 w (words_of n) in
    let y : (walk_of 𝓛 ended hs c).Ghost = ((κs, qs, bounds, a, (one w ∷ [], (none ∷ [], (vptr hp.0 hp.1 ∷ [], tt)))), gh) in let Post : Val → SProp 𝓤 = (walk_of 𝓛 ended hs c).post y in
    qed 𝓛 ((raw (alive 𝓛 ended.signature κs qs) ⊛ ‵ (owns (types_at ended.signature.params κs) a y.0.4)) ∷ given ((p ≡ place w 0) × (length items ≡ n)) (‵ ftrue) ∷ []) ∵
    keep ! (1 ∷ 0 ∷ []) $ learn ! (λ asked. drop ! $ split ! $ move ! (1 ∷ []) $ fsplit3 ! $ fsplit ! $ move ! (2 ∷ []) $ fsplit ! $
    -- [data of the run; the run; data of the home; the home; the handle; the tokens]
    keep ! (3 ∷ 1 ∷ 5 ∷ []) $
    use1 𝓛 (given (IsPlaced w n) (‵ Now)) (fact_use 𝓤 _ (housed 𝓛 w n) (guard_i 𝓤 (IsPlaced w n) (sem 𝓛 Now))) $ learn ! (λ at.
    use2 𝓛 (‵ Land) (razes 𝓛 w n p items asked.0 asked.1) $ use0 𝓛 (‵ ((LandData u64 W ghosts).own_val (w, (tt, tt)) (land_val w ∷ []))) (land_made u64 W ghosts 𝓛 w) $ fjoin ! $
    enter ! 𝓣.C 𝓣.Λ fn (one w ∷ none ∷ vptr hp.0 hp.1 ∷ []) Post $ alloc_all ! (λ l. pass_all ! refl (one_good w at.0, ((tt, tt), ((tt, tt), tt))) $
    sets ! (of_opd ! (get_in ! (fld ! refl (stop !)) (sub ! 0 refl (whole !)))) refl (ptr_good w at.0) $ sets ! (agg ! (no_more !)) refl (tt, tt) $
    sets ! (agg ! (and_then ! (get ! refl) (and_then ! (get ! refl) (no_more !)))) refl (land_good w at.0) $
    let r : Out.Denot = record { ptr = w; by = record {}; len = words_of n; heap = h } in
    let Told : Type 0 = (words_of n ≡ words_of n) × (h ≡ h) in
    use0 𝓛 (raw (fact 𝓤 Told)) (fact_i 𝓤 Told (emp 𝓤) (refl, refl)) $ nothing ! $ nothing ! $ fjoin ! $ nothing ! $ fjoin ! $ nothing ! $ fjoin ! $
    returns ! (look_at ! 0 refl) $ free_all ! refl $ keep ! (3 ∷ 0 ∷ 2 ∷ 1 ∷ []) $ by ! (leaves 𝓛 ended hs c y (land_val w) r (tt, (tt, (tt, tt))) (tt, (tt, (tt, tt))))))))
