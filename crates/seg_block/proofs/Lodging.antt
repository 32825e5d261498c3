-- `lodge` and `dislodge` at a call, for bytes. Assumes `Logic`.
use Rattle.std.proofs.Common.{◌≡◌, ℕ, ◌+◌, ◌-◌, ◌*◌, ◌^◌, ◌<◌, ◌≤◌, Bool, List, [], ◌∷◌, length, true, false, refl, sym, ap, ◌∙◌, arith, Vec}
use Rattle.std.proofs.lemmas.Bool.{ne_eqb, not_from_false}
use lib.Dec.{T}
use seplogic.Ra.Ura.{Ura}
use mir.Syntax.{w8, w64, ty_int, ty_array, given as dict_at}
use mir.Val.{Val, vint, vptr, has_ty, WT}
use base.Fraction.{full_share}
use base.Logic.{SProp, ent, ex, guard, sep, emp, never, id⊢}
use base.Fml.{Fml, ftrue, fsep, flft, froom, feq}
use prog.Memory.{Memory}
use prog.Routine.{Routine}
use contract.Monad.{Fun, fact, fact_i}
use contract.BorrowLft.{◌⊑◌, ⊑_refl}
use types.Logic.{Logic, sem}
use types.Kit.{Goal, Seq, Item, ‵, raw, ◌⊛◌, some, later, ◌$◌, ◌∵◌, !, qed, move, keep, use0, use1, drop, split, split3, join, pick, fsplit, fjoin, fjoin3, feq_l, feq_i, flt_l, flt_i, rewrite, check, show, await, updating, now, done}
use denote.Exit.{no, left}
use denote.RattleType.{RattleType}
use denote.Builtin.{u8, usize}
use denote.Array.{Array}
use denote.Memory.{part_at}
use denote.Param.{param, layout}
use denote.Param.Laws.{Laws, of_field}
use denote.Param.Shared.{copy_shared}
use denote.RawPtr.{Ptr, block_ptr, in_block, in_a_block}
use denote.RawPtr.Bytes.{bytes, bytes_apart, bytes_whole}
use denote.Steps.{only, nothing, heard}
use denote.Struct.Field.{u8-field}
use denote.Struct.Laws.{u8-laws, u8-copy}
use denote.Triple.Spec.{triple_of}
use denote.Triple.Statement.{Contract}
use Rattle.std.specs.Allocator.{block_with_items}
use Rattle.std.proofs.alloc.Calls.{handle_tells}
use Rattle.std_alloc.specs.Vec.Ownership.{lodged, owns_if, has_block}
use Rattle.std_alloc.specs.declared.vec.lodged.Lodged.{Lodged}
use Rattle.std_alloc.specs.contracts.vec.Vec as V
use Rattle.std_alloc.specs.contracts.vec.lodged.Lodged as L
use Rattle.std_alloc.specs.contracts.vec.lodged.LodgedAllocator.TheImpl.{ghosts}
use Rattle.std_alloc.specs.contracts.vec.lodge as LG
use Rattle.std_alloc.specs.contracts.vec.lodged.Vec+T+Lodged.dislodge as DL
use Rattle.std_alloc.proofs.vec.Vec.TheLaws as vec_laws
use Rattle.std_alloc.proofs.vec.lodged.Lodged.TheLaws as lodged-laws
use Rattle.seg_block.specs.Memory.{run_owns}

abbrev pub byte_laws : Laws u8
byte_laws = of_field u8-field u8-laws refl (copy_shared u8-field u8-copy)

abbrev pub Housed : RattleType
Housed = V.the_row u8 L.the_row ghosts

abbrev pub housed-laws : Laws Housed
housed-laws = vec_laws.the_row_laws u8 L.the_row ghosts byte_laws lodged-laws.the_row_laws

abbrev pub Good : Val → Type 0
Good v = T (has_ty (layout Housed) v) × WT v

has_one : (c : ℕ) → 0 < c → has_block c ≡ true
has_one c h = not_from_false _ (ne_eqb c 0 (λ e. omega arith))

module _ {M : Type 1} {𝓤 : Ura M} {𝓛 : Logic 𝓤} {K : Type 0} {Γ : List (Item 𝓤)} {G : Goal 𝓤 𝓛.H} where
  -- such a `Vec` is one machine value, of its type
  pub tells : K → (x : Housed.Denot) (vs : List Val) → ((v : Val) → vs ≡ v ∷ [] → Good v → Seq K 𝓛 (‵ (Housed.own_val x (v ∷ [])) ∷ Γ) G) → Seq K 𝓛 (‵ (Housed.own_val x vs) ∷ Γ) G
  tells t = handle_tells (record { row = Housed; laws = housed-laws; g = record { dealloc_token = λ a τ p. ftrue }; d = dict_at 0; drops = dict_at 0 }) t

module _ {M : Type 1} {𝓤 : Ura M} (𝓛 : Logic 𝓤) where
  kept_if : (y : Bool) (F : Fml) → ent 𝓤 (sem 𝓛 F) (sem 𝓛 (owns_if y F))
  kept_if true F = id⊢ 𝓤 _
  kept_if false F = qed 𝓛 (‵ F ∷ []) ∵ drop ! $ nothing ! $ done !

  abbrev Blk : Ptr → ℕ → ℕ → List ℕ → Fml
  Blk p len cap xs = block_with_items (λ _ _. ftrue) u8 p len cap xs

  -- the bytes that such a `Vec` holds
  pub vacates : (p : Ptr) (len cap : ℕ) (items : List ℕ) → len ≡ length items → len ≤ cap → ent 𝓤 (sem 𝓛 (lodged u8 p len cap items)) (sem 𝓛 (run_owns p items))
  vacates p len cap [] long fits = qed 𝓛 (‵ (lodged u8 p len cap []) ∷ []) ∵ drop ! $ nothing ! $ done !
  vacates p len cap (x ∷ xs) long fits =
      let items : List ℕ = x ∷ xs in
      qed 𝓛 (‵ (lodged u8 p len cap items) ∷ []) ∵ fsplit ! $ drop ! $
      in_a_block ! p (λ q. in_block q (owns_if (has_block cap) (Blk q len cap items))) (id⊢ 𝓤 (never 𝓤)) (λ b o at.
      rewrite ! 0 (λ y. ‵ (owns_if y (Blk (block_ptr b o) len cap items))) (has_one cap (omega arith)) refl $ fsplit ! $ keep ! (0 ∷ []) $
      use1 𝓛 (‵ (fsep (feq ℕ (length items) len) (bytes full_share items b o))) (bytes_apart 𝓛 full_share len items b o) $ fsplit ! $ drop ! $
      rewrite ! 0 (λ q. ‵ (run_owns q items)) {x = p} {y = block_ptr b o} (sym at) refl $ done !)

  module _ (at_mem : Memory → SProp 𝓤) (run : Routine → Fun 𝓤) where
    open 𝓛 use {H}

    abbrev pub Lodges : Contract 𝓤
    Lodges = triple_of 𝓛 (LG.signature u8) (LG.spec u8 𝓛 at_mem run)

    abbrev pub Dislodges : Contract 𝓤
    Dislodges = triple_of 𝓛 (DL.signature u8) (DL.spec u8 𝓛 at_mem run)

    module _ (b o n cap : ℕ) (xs : List ℕ) where
      abbrev pub at_lodge : Lodges.Ghost
      at_lodge = ((([], tt), (full_share, tt), tt, (block_ptr b o, (n, (cap, tt))), (vptr b o ∷ [], (vint w64 n ∷ [], (vint w64 cap ∷ [], tt)))), xs)

      abbrev pub IsLodged : Vec ℕ Lodged → Type 0
      IsLodged r = (r.items ≡ xs) × (r.len ≡ n) × (r.cap ≡ cap) × (r.ptr ≡ block_ptr b o)

      pub lodge_goes : length xs ≡ n → n ≤ cap → cap < 2 ^ 63 → (e : ℕ) → e ≡ o + n * 1 → ent 𝓤 (sep 𝓤 (sem 𝓛 (bytes full_share xs b o)) (H.room (ty_array (ty_int w8) (cap - n)) b e)) (Lodges.pre at_lodge)
      lodge_goes long fits small e there =
          let p = block_ptr b o in
          let Asked : Type 0 = (n ≡ length xs) × (n ≤ cap) × (cap < 2 ^ 63) in
          qed 𝓛 (‵ (bytes full_share xs b o) ∷ ‵ (froom (ty_array (ty_int w8) (cap - n)) b e) ∷ []) ∵
          feq_i ! ℕ (length xs) n long $ fjoin ! $ use1 𝓛 (‵ (part_at (Array u8 n) full_share xs b o)) (bytes_whole 𝓛 full_share n xs b o) $
          rewrite ! 1 (λ k. ‵ (froom (ty_array (ty_int w8) (cap - n)) b k)) there refl $
          nothing ! $ move ! (1 ∷ 2 ∷ 0 ∷ []) $ fjoin3 ! $
          use1 𝓛 (‵ (owns_if (has_block cap) (Blk p n cap xs))) (kept_if (has_block cap) (Blk p n cap xs)) $ flt_i ! (cap * 1) (2 ^ 63) (omega arith) $ fjoin ! $
          use0 𝓛 (raw (fact 𝓤 Asked)) (fact_i 𝓤 Asked (emp 𝓤) (sym long, fits, small)) $ join ! $
          use0 𝓛 (raw (fact 𝓤 ([] ⊑ []))) (fact_i 𝓤 ([] ⊑ []) (emp 𝓤) (⊑_refl [])) $ join ! $
          nothing ! $ flt_i ! cap (2 ^ 64) (omega arith) $ feq_i ! (List Val) (vint w64 cap ∷ []) (vint w64 cap ∷ []) refl $ fjoin ! $ fjoin ! $
          flt_i ! n (2 ^ 64) (omega arith) $ feq_i ! (List Val) (vint w64 n ∷ []) (vint w64 n ∷ []) refl $ fjoin ! $ fjoin ! $
          feq_i ! (List Val) (vptr b o ∷ []) (vptr b o ∷ []) refl $ fjoin ! $ nothing ! $ use0 𝓛 (‵ (flft [] full_share)) (𝓛.lfts.lft-nil full_share) $ join ! $ join ! $ done !

      pub lodge_gives : (v : Val) → ent 𝓤 (Lodges.post at_lodge v) (H.⇛ (ex 𝓤 (λ (r : Vec ℕ Lodged). guard 𝓤 (IsLodged r) (sem 𝓛 (Housed.own_val r (v ∷ []))))))
      lodge_gives v =
          qed 𝓛 (raw (Lodges.post at_lodge v) ∷ []) ∵ updating ! $
          use1 𝓛 (later (some (λ (r : Vec ℕ Lodged). ((‵ (flft [] full_share) ⊛ ‵ ftrue) ⊛ ‵ (Housed.own_val r (v ∷ [])))
          ⊛ some (λ (ws : Unit {0} × (Unit {0} × (Unit {0} × Unit {0}))). ‵ (fsep ftrue (fsep ftrue (fsep ftrue ftrue))) ⊛ raw (fact 𝓤 (IsLodged r)))))) (id⊢ 𝓤 _) $ await ! tt $ pick ! (λ r.
          split ! $ move ! (1 ∷ []) $ pick ! (λ ws. split ! $ drop ! $ heard ! (IsLodged r) (λ is. split ! $ drop ! $ now ! $
          show ! (λ (z : Vec ℕ Lodged). guard 𝓤 (IsLodged z) (sem 𝓛 (Housed.own_val z (v ∷ [])))) r $ check ! is $ done !)))

    module _ (d : Vec ℕ Lodged) (u : Val) where
      abbrev pub at_dislodge : Dislodges.Ghost
      at_dislodge = ((([], tt), (full_share, tt), tt, (d, tt), (u ∷ [], tt)), tt)

      pub dislodge_goes : ent 𝓤 (sem 𝓛 (Housed.own_val d (u ∷ []))) (Dislodges.pre at_dislodge)
      dislodge_goes =
          qed 𝓛 (‵ (Housed.own_val d (u ∷ [])) ∷ []) ∵ nothing ! $ use0 𝓛 (raw (fact 𝓤 ([] ⊑ []))) (fact_i 𝓤 ([] ⊑ []) (emp 𝓤) (⊑_refl [])) $ join ! $
          nothing ! $ move ! (2 ∷ 0 ∷ []) $ fjoin ! $ nothing ! $ use0 𝓛 (‵ (flft [] full_share)) (𝓛.lfts.lft-nil full_share) $ join ! $ join ! $ done !

      pub dislodge_gives : (v : Val) → ent 𝓤 (Dislodges.post at_dislodge v) (H.⇛ (guard 𝓤 ((v ≡ vint w64 d.len) × (d.len < 2 ^ 64)) (sem 𝓛 (run_owns d.ptr d.items))))
      dislodge_gives v =
          qed 𝓛 (raw (Dislodges.post at_dislodge v) ∷ []) ∵ updating ! $
          use1 𝓛 (later (some (λ (r : ℕ). ((‵ (flft [] full_share) ⊛ ‵ ftrue) ⊛ ‵ (usize.own_val r (v ∷ [])))
          ⊛ some (λ (ws : Unit {0} × Unit {0}). ‵ (fsep (left ((V.the_row (param 0 u8) L.the_row ghosts).exit no) d ws.0) ftrue) ⊛ raw (fact 𝓤 (r ≡ d.len)) ⊛ ‵ (lodged u8 d.ptr d.len d.cap d.items))))) (id⊢ 𝓤 _) $ await ! tt $ pick ! (λ r.
          split ! $ move ! (1 ∷ []) $ pick ! (λ ws. split3 ! $ drop ! $ heard ! (r ≡ d.len) (λ is. move ! (1 ∷ []) $ split ! $ drop ! $ fsplit ! $ feq_l ! (λ e. flt_l ! (λ f. now ! $
          check ! (ap only e ∙ ap (vint w64) is, omega arith) $ keep ! (0 ∷ []) $
          use1 𝓛 (‵ (run_owns d.ptr d.items)) (vacates d.ptr d.len d.cap d.items d.ok.0 d.ok.1) $ done !)))))
