-- `again` copies what a `&` to a `Known` holds.
use Rattle.std.proofs.Common.{◌≡◌, ℕ, [], ◌∷◌, refl}
use mir.Syntax.{named}
use mir.Val.{Val, vptr}
use base.Logic.{SProp, emp}
use types.Kit.{‵, raw, ◌⊛◌, ◌$◌, ◌∵◌, !, qed, by, move, keep, drop, split, fsplit, fjoin, use0}
use types.Run.{no_more, returns, enter}
use types.ByLocal.{alloc_all, pass_all, free_all, look_at, sets}
use types.Part.{agg}
use contract.Monad.{fact, fact_i}
use contract.Running.{tables}
use denote.Exit.{yes}
use denote.RattleType.{RattleType, owns}
use denote.Signature.{types_at, plain}
use denote.Builtin.{RefOf}
use denote.Opens.{unhide}
use denote.Ref.{shr_vals, shr_Tells}
use denote.Steps.{nothing}
use denote.Triple.Entry.{alive}
use denote.Triple.Walked.{Stays, stay_dropped, walk_of, Goes-dropped}
use Rattle.atomic_table.proofs.Walks.{proved, leaves}
use Rattle.seg_block.specs.contracts.known.Known as Known
use Rattle.seg_block.proofs.Fields.{none, KnownData, known_made}
use Rattle.seg_block.specs.contracts.known.Known.again.{ended, clauses}
use Rattle.seg_block.specs.contracts.known.Known.again.Key.{name as #self}
use Rattle.seg_block.proofs.known.Known.again.Statement.{statement}
use Rattle.seg_block.proofs.known.Known.again.Code as code

pub again_spec : {M : Type 1} → statement M
again_spec 𝓤 𝓛 𝓜 𝓡 wired =
    let H = 𝓛.H in let 𝓣 = tables 𝓤 H 𝓜 𝓡 𝓡.env in let fn = code.function in let Row : RattleType = Known.the_row in let self = RefOf (0 ∷ []) tt (plain (λ _. Row)) (λ _. tt) in
    let c = clauses 𝓛 𝓜.mem 𝓡.returns in
    let hs : Stays ended.signature.params ended.kept = (stay_dropped self yes, tt) in
    proved 𝓛 ended hs c 𝓜 𝓡 (Goes-dropped 𝓛 1 self yes (λ κs x f. refl), tt) #self fn (code.unfolded 𝓤 H 𝓜 𝓡 wired)
    (λ κs. (shr_vals, tt)) (λ κs. (shr_Tells (named 0) κs.0 Row, tt)) (λ κs qs bounds a gh are.
    let at : ℕ × ℕ = a.0.ref_ptr in let h : Row.Denot = a.0.now in
    let y : (walk_of 𝓛 ended hs c).Ghost = ((κs, qs, bounds, a, (vptr at.0 at.1 ∷ [], tt)), gh) in let Post : Val → SProp 𝓤 = (walk_of 𝓛 ended hs c).post y in
    qed 𝓛 ((raw (alive 𝓛 ended.signature κs qs) ⊛ ‵ (owns (types_at ended.signature.params κs) a y.0.4)) ∷ raw ((c κs a).requires gh) ∷ []) ∵
    keep ! (0 ∷ []) $ split ! $ move ! (1 ∷ []) $ fsplit ! $ fsplit ! $ drop ! $ unhide ! $ fsplit ! $ drop ! $
    -- [what is known; nothing; the tokens]
    use0 𝓛 (‵ (KnownData.own_val tt (none ∷ []))) (known_made 𝓛) $ fjoin ! $ move ! (0 ∷ 2 ∷ []) $
    enter ! 𝓣.C 𝓣.Λ fn (vptr at.0 at.1 ∷ []) Post $ alloc_all ! (λ l. pass_all ! refl ((tt, tt), tt) $
    sets ! (agg ! (no_more !)) refl (tt, tt) $
    let Told : Type 0 = h ≡ h in use0 𝓛 (raw (fact 𝓤 Told)) (fact_i 𝓤 Told (emp 𝓤) refl) $ nothing ! $ nothing ! $ fjoin ! $
    returns ! (look_at ! 0 refl) $ free_all ! refl $ keep ! (3 ∷ 0 ∷ 2 ∷ 1 ∷ []) $ by ! (leaves 𝓛 ended hs c y none h (tt, tt) (tt, tt))))
