-- `lay` cuts a block of words in two, and hands the bytes to `lodge`.
use Rattle.std.proofs.Common.{◌≡◌, ℕ, ◌+◌, ◌-◌, [], ◌∷◌, refl, sym, ap, subst, arith, w8, w64, Vec}
use mir.Syntax.{ty_int, ty_array}
use mir.Val.{Val, vint, vptr}
use base.Logic.{SProp, emp, fst∗, never}
use base.Fml.{Fml, ftrue, fsep, froom}
use types.Logic.{sem}
use types.Kit.{‵, raw, ◌⊛◌, some, given, later, at_ret, ◌$◌, ◌∵◌, !, qed, by, move, keep, drop, split, fsplit, fjoin, learn, pick, await, use0, use1, use2, rewrite}
use types.Run.{stop, fld, lit, of_opd, bin, no_more, and_then, first, blocks, exec, returns, enter}
use types.ByLocal.{alloc_all, pass_all, free_all, look_at, get, get_in, sets, lands_last, is, env}
use types.Part.{agg, sub, whole}
use contract.Monad.{fact, fact_i}
use contract.Running.{tables}
use denote.Exit.{yes}
use denote.RattleType.{RattleType, owns}
use denote.Signature.{types_at, plain}
use denote.Builtin.{u8, u64, usize}
use denote.RawPtr.{Ptr, block_ptr, null_ptr, ptr_val, InBlock, room_for, in_a_block}
use denote.Plain.{uint_vals, uint_Tells}
use denote.Steps.{nothing, only}
use denote.Triple.Call.{calls_at_last}
use denote.Triple.Entry.{alive}
use denote.Triple.Walked.{Stays, stay_dropped, walk_of, Goes-dropped}
use Rattle.core.proofs.slots.Bodies.{after as from_on}
use Rattle.core.specs.Allocator.{array_of}
use Rattle.libc.specs.Heap.{chunk}
use Rattle.std_heap.specs.contracts.Global as Global
use Rattle.std_heap.specs.contracts.GlobalAllocator.TheImpl.{ghosts}
use Rattle.std_alloc.specs.declared.vec.lodged.Lodged.{Lodged}
use Rattle.std_alloc.proofs.vec.lodge.Met as callee
use Rattle.atomic_table.proofs.Walks.{proved, leaves}
use Rattle.atomic_table.proofs.Calls.{fm}
use Rattle.seg_block.specs.Memory.{place, home_owns, bytes_room, land_owns, words_of, IsBlockSize}
use Rattle.seg_block.specs.contracts.home.Home as Home
use Rattle.seg_block.specs.contracts.land.Land as Land
use Rattle.seg_block.proofs.Fields.{one, and_true, HomeData, home_made}
use Rattle.seg_block.proofs.LandFields.{land_val, land_told, land_good}
use Rattle.seg_block.proofs.Values.{pair_val, pair_made}
use Rattle.seg_block.proofs.Landing.{lays}
use Rattle.seg_block.proofs.Lodging.{Housed, Good, byte_laws, tells, Lodges, at_lodge, IsLodged, lodge_goes, lodge_gives}
use Rattle.seg_block.specs.contracts.home.Home.lay.{ended, clauses}
use Rattle.seg_block.specs.contracts.home.Home.lay.Key.{name as #self}
use Rattle.seg_block.proofs.home.Home.lay.Statement.{statement}
use Rattle.seg_block.proofs.home.Home.lay.Code as code

pub lay_spec : {M : Type 1} → statement M
lay_spec 𝓤 𝓛 𝓜 𝓡 wired =
    let H = 𝓛.H in let 𝓣 = tables 𝓤 H 𝓜 𝓡 𝓡.env in let fn = code.function in let W : RattleType = Global.the_row in let Row : RattleType = Land.the_row u64 W ghosts in let land = plain (λ _. Row) in let number = plain (λ _. usize) in
    let c = clauses 𝓛 𝓜.mem 𝓡.returns in
    let hs : Stays ended.signature.params ended.kept = (stay_dropped land yes, (stay_dropped number yes, tt)) in
    proved 𝓛 ended hs c 𝓜 𝓡 (Goes-dropped 𝓛 0 land yes (λ κs x f. refl), (Goes-dropped 𝓛 0 number yes (λ κs x f. refl), tt)) #self fn (code.unfolded 𝓤 H 𝓜 𝓡 wired)
    (λ κs. ((λ x. land_val x.ptr ∷ []), (uint_vals w64, tt))) (λ κs. ((λ x vs is. land_told u64 W ghosts x.ptr vs is.0), (uint_Tells w64, tt))) (λ κs qs bounds a gh are.
    let p : Ptr = a.0.ptr in let n : ℕ = a.1.0 in let Owns : Ptr → ℕ → Fml = λ q k. land_owns chunk u64 q k in
    let y : (walk_of 𝓛 ended hs c).Ghost = ((κs, qs, bounds, a, (land_val p ∷ [], (vint w64 n ∷ [], tt))), gh) in let Post : Val → SProp 𝓤 = (walk_of 𝓛 ended hs c).post y in
    qed 𝓛 ((raw (alive 𝓛 ended.signature κs qs) ⊛ ‵ (owns (types_at ended.signature.params κs) a y.0.4)) ∷ given (IsBlockSize n × (a.0.len ≡ words_of n)) (‵ ftrue) ∷ []) ∵
    keep ! (1 ∷ 0 ∷ []) $ learn ! (λ asked. drop ! $ split ! $ move ! (1 ∷ []) $ fsplit ! $ fsplit ! $
    -- [data of the block; the block; the size; the tokens]
    keep ! (1 ∷ 3 ∷ []) $ rewrite ! 0 (λ (k : ℕ). ‵ (Owns p k)) asked.1 refl $ fsplit ! $ move ! (1 ∷ []) $
    let τ = array_of u64 (words_of n) in
    in_a_block ! p (λ q. fsep (room_for τ q) (chunk τ q)) (fst∗ 𝓤 (never 𝓤) (sem 𝓛 (chunk τ null_ptr))) (λ b o at. let w : Ptr = block_ptr b o in
    move ! (1 ∷ 0 ∷ []) $ fjoin ! $ use1 𝓛 (‵ (home_owns w n) ⊛ ‵ (bytes_room w n)) (lays 𝓛 b o n asked.0) $ split ! $
    -- [the home; room for the bytes; the tokens]
    enter ! 𝓣.C 𝓣.Λ fn (land_val p ∷ vint w64 n ∷ []) Post $ alloc_all ! (λ l. pass_all ! refl (land_good p (subst InBlock (sym at) tt), ((tt, record { fits = are.1.0.1 }), tt)) $ let Ev = env fn.locals l in
    sets ! (is ! (of_opd ! (get_in ! (fld ! refl (stop !)) (sub ! 0 refl (whole !)))) (ap ptr_val at)) refl (tt, tt) $ first ! $ blocks ! $
    let e : ℕ = o + (8 + 0) in let there : 8 + o ≡ e = omega arith in let byte = ty_int w8 in let small = asked.0.1 in
    let same : Path (ℕ × ℕ) (n, o + 8) (n - 0, e) = (let one : n ≡ n - 0 = omega arith in let two : o + 8 ≡ e = omega arith in λ i. (one i, two i)) in
    sets ! (is ! (bin ! (get ! refl) (lit ! tt) tt) (ap (λ (k : ℕ). vptr b k) there)) refl (tt, tt) $ sets ! (of_opd ! (get ! refl)) refl (tt, tt) $
    let t = at_lodge 𝓛 𝓜.mem 𝓡.returns b e 0 n [] in let Lodge = Lodges 𝓛 𝓜.mem 𝓡.returns in let IsSo : Vec ℕ Lodged → Type 0 = IsLodged 𝓛 𝓜.mem 𝓡.returns b e 0 n [] in
    move ! (1 ∷ []) $ rewrite ! 0 (λ (r : ℕ × ℕ). ‵ (froom (ty_array byte r.0) b r.1)) same refl $ nothing ! $
    use2 𝓛 (raw (Lodge.pre t)) (lodge_goes 𝓛 𝓜.mem 𝓡.returns b e 0 n [] refl (omega arith) (omega arith) e (omega arith)) $
    calls_at_last ! (fm 𝓛 𝓜 𝓡) Lodge (callee.met 𝓤 𝓛 𝓜 𝓡 (code.calls-std_alloc::vec::lodge 𝓡.env wired) u8 byte_laws) t (and_then ! (get ! refl) (and_then ! (lit ! tt) (and_then ! (get ! refl) (no_more !)))) (λ v.
    use1 𝓛 (later (some (λ (r : Vec ℕ Lodged). given (IsSo r) (‵ (Housed.own_val r (v ∷ [])))))) (lodge_gives 𝓛 𝓜.mem 𝓡.returns b e 0 n [] v) $ await ! tt $ pick ! (λ r. learn ! (λ so. tells ! r (v ∷ []) (λ u alike good.
    let fine : Good v = subst Good (sym (ap only alike)) good in rewrite ! 0 (λ (x : Val). ‵ (Housed.own_val r (x ∷ []))) (sym (ap only alike)) refl $
    lands_last ! refl fine $ exec ! 𝓣.C 𝓣.Λ Ev (from_on 2 fn.body) (at_ret Ev Post) $ sets ! (of_opd ! (get ! refl)) refl fine $
    sets ! (agg ! (and_then ! (get ! refl) (no_more !))) refl (tt, (tt, tt)) $ sets ! (of_opd ! (get ! refl)) refl fine $
    sets ! (agg ! (and_then ! (get ! refl) (and_then ! (get ! refl) (no_more !)))) refl (and_true _ fine.0, ((tt, tt), (fine.1, tt))) $
    -- [the vector; the home; the tokens]
    move ! (1 ∷ []) $ use0 𝓛 (‵ (HomeData.own_val (w, tt) (one w ∷ []))) (home_made 𝓛 w) $ fjoin ! $
    let h : Home.the_row.Denot = record { base = w; size = n } in
    use2 𝓛 (‵ ((denote.Struct.Tuple.Tuple (Home.the_row ∷ Housed ∷ [])).own_val (h, r) (pair_val (one w) v ∷ []))) (pair_made 𝓛 Home.the_row Housed h r (one w) v) $
    let Told : Type 0 = (n ≡ n) × (r.items ≡ []) × (r.len ≡ 0) × (r.cap ≡ n) × (r.ptr ≡ place w 0) in
    use0 𝓛 (raw (fact 𝓤 Told)) (fact_i 𝓤 Told (emp 𝓤) (refl, so.0, so.1, so.2, so.3)) $ nothing ! $ nothing ! $ fjoin ! $ nothing ! $ fjoin ! $
    returns ! (look_at ! 0 refl) $ free_all ! refl $ keep ! (3 ∷ 0 ∷ 2 ∷ 1 ∷ []) $ by ! (leaves 𝓛 ended hs c y (pair_val (one w) v) (h, r) (tt, (tt, tt)) (tt, (tt, tt)))))))))))
