-- `vacate` takes the run from `dislodge`.
use Rattle.std.proofs.Common.{◌≡◌, ◌^◌, ◌<◌, List, [], ◌∷◌, ◌++◌, refl, w64}
use mir.Val.{Val, vint}
use base.Logic.{SProp, emp}
use prog.Wp.{WpFn}
use types.Kit.{‵, raw, ◌⊛◌, given, later, ◌$◌, ◌∵◌, !, qed, by, move, keep, use0, use1, prop, regoal, split, fsplit, fjoin, await, learn}
use types.Part.{agg}
use types.Run.{enter, returns, of_opd, and_then, no_more}
use types.ByLocal.{alloc_all, pass_all, free_all, look_at, get, sets, lands_as}
use contract.Monad.{fact, fact_i}
use contract.Running.{tables}
use denote.Exit.{yes}
use denote.RattleType.{owns}
use denote.Builtin.{u8}
use denote.Signature.{plain, types_at}
use denote.Steps.{nothing}
use denote.Triple.Call.{calls_at}
use denote.Triple.Entry.{alive}
use denote.Triple.Walked.{Stays, stay_dropped, walk_of, Goes-dropped}
use Rattle.std_alloc.proofs.vec.lodged.Vec+T+Lodged.dislodge.Met as callee
use Rattle.atomic_table.proofs.Walks.{proved_at, leaves}
use Rattle.atomic_table.proofs.Calls.{fm}
use Rattle.seg_block.specs.Memory.{run_owns}
use Rattle.seg_block.specs.contracts.run.Run as Run
use Rattle.seg_block.proofs.Fields.{none, RunData, run_made}
use Rattle.seg_block.proofs.Lodging.{Housed, byte_laws, tells, Dislodges, at_dislodge, dislodge_goes, dislodge_gives}
use Rattle.seg_block.specs.contracts.run.vacate.{ended, clauses}
use Rattle.seg_block.specs.contracts.run.vacate.Key.{name as #self}
use Rattle.seg_block.proofs.run.vacate.Statement.{statement}
use Rattle.seg_block.proofs.run.vacate.Code as code

pub vacate_spec : {M : Type 1} → statement M
vacate_spec 𝓤 𝓛 𝓜 𝓡 wired =
    let H = 𝓛.H in let 𝓣 = tables 𝓤 H 𝓜 𝓡 𝓡.env in let fn = code.function in let self = plain (λ _. Housed) in let c = clauses 𝓛 𝓜.mem 𝓡.returns in
    let hs : Stays ended.signature.params ended.kept = (stay_dropped self yes, tt) in
    let W = walk_of 𝓛 ended hs c in
    proved_at 𝓛 ended hs c 𝓜 𝓡 (Goes-dropped 𝓛 0 self yes (λ κs x f. refl), tt) #self fn (code.unfolded 𝓤 H 𝓜 𝓡 wired) (λ y₀ are.
    let κs = y₀.0.0 in let qs = y₀.0.1 in let a = y₀.0.3 in let d : Housed.Denot = a.0 in let r : Run.the_row.Denot = record { ptr = d.ptr; items = d.items } in
    qed 𝓛 ((raw (alive 𝓛 ended.signature κs qs) ⊛ ‵ (owns (types_at ended.signature.params κs) a y₀.0.4)) ∷ raw ((c κs a).requires y₀.1) ∷ []) ∵
    keep ! (0 ∷ []) $ split ! $ move ! (1 ∷ []) $ fsplit ! $ tells ! d y₀.0.4.0 (λ u is good. move ! (0 ∷ 2 ∷ []) $
    let Post : Val → SProp 𝓤 = W.post y₀ in let y = at_dislodge 𝓛 𝓜.mem 𝓡.returns d u in let Asked = Dislodges 𝓛 𝓜.mem 𝓡.returns in
    regoal ! (λ (us : List Val). prop (WpFn 𝓤 H 𝓣.C 𝓣.Λ fn (us ++ []) Post)) is refl $
    enter ! 𝓣.C 𝓣.Λ fn (u ∷ []) Post $ alloc_all ! (λ l. pass_all ! refl (good, tt) $ sets ! (of_opd ! (get ! refl)) refl good $
    use1 𝓛 (raw (Asked.pre y)) (dislodge_goes 𝓛 𝓜.mem 𝓡.returns d u) $
    calls_at ! (fm 𝓛 𝓜 𝓡) Asked (callee.met 𝓤 𝓛 𝓜 𝓡 (code.calls-std_alloc::vec::lodged::Vec+T+Lodged::dislodge 𝓡.env wired) u8 byte_laws) y (and_then ! (get ! refl) (no_more !)) (λ v.
    use1 𝓛 (later (given ((v ≡ vint w64 d.len) × (d.len < 2 ^ 64)) (‵ (run_owns d.ptr d.items)))) (dislodge_gives 𝓛 𝓜.mem 𝓡.returns d u v) $ await ! tt $ learn ! (λ got.
    lands_as ! got.0 refl (tt, record { fits = got.1 }) $ sets ! (agg ! (no_more !)) refl (tt, tt) $
    use0 𝓛 (‵ (RunData.own_val tt (none ∷ []))) (run_made 𝓛) $ fjoin ! $
    let Told : Type 0 = (d.ptr ≡ d.ptr) × (d.items ≡ d.items) in use0 𝓛 (raw (fact 𝓤 Told)) (fact_i 𝓤 Told (emp 𝓤) (refl, refl)) $ nothing ! $ nothing ! $ fjoin ! $
    returns ! (look_at ! 0 refl) $ free_all ! refl $ keep ! (3 ∷ 0 ∷ 2 ∷ 1 ∷ []) $ by ! (leaves 𝓛 ended hs c y₀ none r (tt, tt) (tt, tt)))))))
