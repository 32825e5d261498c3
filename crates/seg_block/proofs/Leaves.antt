-- An end leaves: it gives its bytes to the invariant, or it is the last and gets all the memory. Assumes `Logic`.
use Rattle.std.proofs.Common.{◌≡◌, ℕ, ◌+◌, ◌%◌, ◌^◌, ◌<◌, ◌≤◌, Bool, true, false, List, [], ◌∷◌, ◌++◌, length, sym, refl, ap, ◌∙◌, inl, inr, append-nil, length-append, arith}
use mathlib.Core.List.{IsPrefix}
use seplogic.Ra.Ura.{Ura}
use base.Fraction.{full_share}
use base.Logic.{SProp, ent, sep, ex, upd, upd_i}
use base.Fml.{Fml, ftrue, fsep, fex, fobs, fauth}
use base.Growing.{latest, at_least, prefix_trans}
use types.Logic.{Logic, sem}
use types.Growing.{latest_grows, latest_shows, latest_bounds}
use mir.Syntax.{w64, ty_int}
use types.Kit.{‵, raw, ◌⊛◌, some, given, ◌$◌, ◌∵◌, !, qed, by, move, keep, drop as toss, split, split3, fsplit, fsplit3, fjoin, fjoin3, fpack, pick, learn, show, frame, assume, suffices, settle, rewrite, use1, use2, use3, done}
use denote.RawPtr.{Ptr, block_ptr, block_of, count_of}
use denote.Steps.{nothing}
use Rattle.core.specs.Sync.RawAtomic.{asks, always}
use Rattle.seg_block.specs.Memory.{known, bytes_at, word, word_room, way_back}
use Rattle.seg_block.specs.Rule.{Names, State, published, view, Holds, flag, word_of, if_left, first_of, log_order, runs, logs, memory, Inner, common, whole, gate_owns, known_owns, last, gone}
use Rattle.seg_block.proofs.Asks.{Lies}
use Rattle.seg_block.proofs.Pieces.{glue_at}
use Rattle.seg_block.proofs.Parts.{IsLive, tail_at, front_at, inside, reset, TailSees, FrontSees, tail_opens, front_opens, closes, closes_for_good}
use Rattle.seg_block.proofs.Steps.{flag_small}

module _ {M : Type 1} {𝓤 : Ura M} (𝓛 : Logic 𝓤) (base : Ptr) (z : Names) where
  open 𝓛 use {H, A}

  abbrev ◌⊢◌ : SProp 𝓤 → SProp 𝓤 → Type 1
  P ⊢ Q = ent 𝓤 P Q

  abbrev ◌∗◌ : SProp 𝓤 → SProp 𝓤 → SProp 𝓤
  P ∗ Q = sep 𝓤 P Q

  abbrev ⟦◌⟧ : Fml → SProp 𝓤
  ⟦ P ⟧ = sem 𝓛 P

  infix 26 ◌⊢◌
  infixr 35 ◌∗◌
  abbrev I : Fml
  I = Inner base z

  abbrev C : Fml
  C = common base z

  abbrev step : (ℕ → ℕ) → (ℕ → Fml) → SProp 𝓤
  step change after = asks 𝓛 (block_ptr (block_of base) (count_of base)) change always after

  abbrev Found : (ℕ → ℕ) → (ℕ → Fml) → ℕ → SProp 𝓤
  Found change after = Lies 𝓛 (block_of base) (count_of base) change after I

  abbrev now : ℕ → List ℕ → Fml
  now γ l = latest log_order full_share γ l

  -- the one end has left: the invariant has its bytes
  goes_first : (log : List ℕ) (u : State) → Holds z.size u → IsLive u.tail_left u.front_left
      → ⟦ word base (word_of u) ⟧ ∗ ⟦ logs base z u ⟧ ∗ ⟦ runs base z u ⟧ ∗ ⟦ way_back base z.size ⟧ ∗ A.auth z.tail (tail_at 𝓛 base z u) ∗ A.auth z.front (front_at 𝓛 base z u) ∗ ⟦ C ⟧
      ⊢ ⟦ I ⟧ ∗ ⟦ gate_owns base z gone log ⟧
  goes_first log u so live = qed 𝓛 (‵ (word base (word_of u)) ∷ ‵ (logs base z u) ∷ ‵ (runs base z u) ∷ ‵ (way_back base z.size) ∷ ‵ (fauth z.tail (tail_at 𝓛 base z u)) ∷ ‵ (fauth z.front (front_at 𝓛 base z u)) ∷ ‵ C ∷ []) ∵
      move ! (2 ∷ 3 ∷ []) $ fjoin ! $ move ! (2 ∷ 0 ∷ []) $ fjoin ! $ move ! (1 ∷ 0 ∷ []) $ fjoin ! $
      move ! (1 ∷ 2 ∷ 0 ∷ []) $ use3 𝓛 (‵ I) (closes 𝓛 base z u so live) $ frame ! $ nothing ! $ move ! (1 ∷ 0 ∷ []) $ fjoin ! $ done !

  -- both ends have left: the second has all the memory
  goes_last : (log : List ℕ) (u : State) → Holds z.size u → u.tail_left ≡ true → u.front_left ≡ true
      → ⟦ word base (word_of u) ⟧ ∗ ⟦ runs base z u ⟧ ∗ ⟦ way_back base z.size ⟧ ∗ A.auth z.tail (tail_at 𝓛 base z u) ∗ A.auth z.front (front_at 𝓛 base z u) ∗ ⟦ C ⟧
      ⊢ ⟦ I ⟧ ∗ ⟦ gate_owns base z last log ⟧
  goes_last log u so a b =
      let all : List ℕ = u.fetched ++ (u.pending ++ u.rest) in
      let seen : length (published u) ≡ length u.fetched + length u.pending = length-append u.fetched u.pending in
      let full = so.filled a in
      let long : length all ≡ z.size = length-append u.fetched (u.pending ++ u.rest) ∙ ap (λ (k : ℕ). length u.fetched + k) (length-append u.pending u.rest) ∙ omega arith in
      qed 𝓛 (‵ (word base (word_of u)) ∷ ‵ (runs base z u) ∷ ‵ (way_back base z.size) ∷ ‵ (fauth z.tail (tail_at 𝓛 base z u)) ∷ ‵ (fauth z.front (front_at 𝓛 base z u)) ∷ ‵ C ∷ []) ∵
      use1 𝓛 (‵ (word_room base)) (𝓛.laws.at_room (ty_int w64) (block_of base) (count_of base) _) $
      move ! (3 ∷ 4 ∷ []) $ use2 𝓛 (‵ I) (closes_for_good 𝓛 base z u so a b) $ frame ! $
      -- [room; runs; way; C]
      move ! (1 ∷ []) $ fsplit3 ! $
      rewrite ! 1 (λ (y : Bool). ‵ (if_left y (bytes_at base 0 u.fetched))) b refl $
      rewrite ! 2 (λ (y : Bool). ‵ (if_left y (bytes_at base (length (published u)) u.rest))) a refl $
      move ! (0 ∷ 2 ∷ []) $ use2 𝓛 (‵ (bytes_at base (length u.fetched) (u.pending ++ u.rest))) (glue_at 𝓛 base (length u.fetched) (length (published u)) u.pending u.rest seen) $
      move ! (1 ∷ 0 ∷ []) $ use2 𝓛 (‵ (bytes_at base 0 all)) (glue_at 𝓛 base 0 (length u.fetched) u.fetched (u.pending ++ u.rest) (omega arith)) $
      nothing ! $ fpack ! (length all ≡ z.size) (λ _. ftrue) long $ fjoin ! $ fpack ! (List ℕ) (whole base z) all $
      -- [whole; room; way; C]
      move ! (1 ∷ 0 ∷ 2 ∷ []) $ fjoin3 ! $ move ! (1 ∷ 0 ∷ []) $ fjoin ! $ done !

  -- the role, and who ended first, after an end with this role left and found n
  abbrev pub Left : ℕ → List ℕ → ℕ → ℕ × List ℕ → Type 0
  Left role first n u = IsPrefix first u.1 × (n % 4 ≡ 0 → (u.0 ≡ gone) × (u.1 ≡ role ∷ [])) × (0 < n % 4 → u.0 ≡ last)

  abbrev pub left : ℕ → List ℕ → List ℕ → ℕ → ℕ × List ℕ → Fml
  left role log first n u = fsep (known (Left role first n u)) (fsep (gate_owns base z u.0 log) (known_owns base z log u.1))

  abbrev pub leaving : ℕ → List ℕ → List ℕ → ℕ → Fml
  leaving role log first n = fex (ℕ × List ℕ) (left role log first n)

  -- what is known, put together
  tells : (role : ℕ) (log first : List ℕ) (n : ℕ) (u : ℕ × List ℕ) → Left role first n u
      → ⟦ gate_owns base z u.0 log ⟧ ∗ ⟦ at_least log_order z.log log ⟧ ∗ ⟦ at_least log_order z.first u.1 ⟧ ⊢ ⟦ leaving role log first n ⟧
  tells role log first n u is = qed 𝓛 (‵ (gate_owns base z u.0 log) ∷ ‵ (at_least log_order z.log log) ∷ ‵ (at_least log_order z.first u.1) ∷ []) ∵
      move ! (1 ∷ 2 ∷ []) $ fjoin ! $ move ! (1 ∷ 0 ∷ []) $ fjoin ! $ nothing ! $ fpack ! (Left role first n u) (λ _. ftrue) is $ fjoin ! $
      fpack ! (ℕ × List ℕ) (left role log first n) u $ done !

  module _ (log learnt first items : List ℕ) (fits : length log + length items ≡ z.size) (small : z.size ≤ 65536) where
    abbrev change : ℕ → ℕ
    change n = (n + 1) % 2 ^ 64

    abbrev then : ℕ → Fml
    then = leaving 0 log first

    abbrev Z : SProp 𝓤
    Z = ex 𝓤 (Found change then)

    module _ (s : State) (so : TailSees 𝓛 base z log s) where
      abbrev s' : State
      s' = record { fetched = s.fetched; pending = s.pending; rest = items; tail_left = true; front_left = s.front_left }

      was : length log ≡ length (published s)
      was = ap length so.1

      so' : Holds z.size s'
      so' = let is = was in record { fits = so.0.fits; filled = λ _. omega arith }

      turned : change (word_of s) ≡ word_of s'
      turned = let is = was in let low = flag_small s.front_left in let bound = so.0.fits in let flagged : flag s.tail_left ≡ 0 = ap flag so.2 in omega arith

      abbrev Tail-has : Bool → SProp 𝓤
      Tail-has b = ⟦ word base (word_of s) ⟧ ∗ ⟦ now z.log (published s) ⟧ ∗ ⟦ now z.first (first_of s.tail_left s.front_left) ⟧ ∗ ⟦ runs base z s' ⟧ ∗ ⟦ way_back base z.size ⟧
          ∗ A.auth z.tail (tail_at 𝓛 base z s') ∗ A.auth z.front (front_at 𝓛 base z s') ∗ ⟦ C ⟧ ∗ ⟦ at_least log_order z.first first ⟧

      tail_ends : (b : Bool) → s.front_left ≡ b → Tail-has b ⊢ upd 𝓤 Z
      tail_ends false e =
          let none : first_of s.tail_left s.front_left ≡ [] = λ i. first_of (so.2 i) (e i) in
          let found : word_of s % 4 ≡ 0 = (let flagged : flag s.tail_left ≡ 0 = ap flag so.2 in let unflagged : flag s.front_left ≡ 0 = ap flag e in omega arith) in
          let one : first_of s'.tail_left s'.front_left ≡ 0 ∷ [] = refl in
          qed 𝓛 (‵ (word base (word_of s)) ∷ ‵ (now z.log (published s)) ∷ ‵ (now z.first (first_of s.tail_left s.front_left)) ∷ ‵ (runs base z s') ∷ ‵ (way_back base z.size)
          ∷ ‵ (fauth z.tail (tail_at 𝓛 base z s')) ∷ ‵ (fauth z.front (front_at 𝓛 base z s')) ∷ ‵ C ∷ ‵ (at_least log_order z.first first) ∷ []) ∵
          move ! (2 ∷ []) $ rewrite ! 0 (λ (l : List ℕ). ‵ (now z.first l)) none refl $ move ! (0 ∷ 8 ∷ []) $
          use2 𝓛 (given (IsPrefix first []) (‵ (now z.first []) ⊛ ‵ (at_least log_order z.first first))) (latest_bounds log_order 𝓛 full_share z.first [] first) $ learn ! (λ within. split ! $
          use1 𝓛 (raw (upd 𝓤 ⟦ now z.first (0 ∷ []) ⟧)) (latest_grows log_order 𝓛 z.first [] (0 ∷ []) (0 ∷ [], refl)) $ settle 𝓛 Z (‵ (now z.first (0 ∷ []))) $ suffices ! _ (upd_i 𝓤 Z) $
          use1 𝓛 (‵ (now z.first (0 ∷ [])) ⊛ ‵ (at_least log_order z.first (0 ∷ []))) (latest_shows log_order 𝓛 full_share z.first (0 ∷ []) (0 ∷ []) ([], refl)) $ split ! $
          -- [first; at first; at least; word; log; runs; way; auth; auth; C]
          move ! (2 ∷ []) $ toss ! $ move ! (3 ∷ []) $
          use1 𝓛 (‵ (now z.log (published s)) ⊛ ‵ (at_least log_order z.log log)) (latest_shows log_order 𝓛 full_share z.log (published s) log ([], append-nil log ∙ so.1)) $ split ! $
          -- [log; at log; first; at first; word; runs; way; auth; auth; C]
          move ! (0 ∷ 2 ∷ []) $ fjoin ! $
          -- [logs; at log; at first; word; runs; way; auth; auth; C]
          move ! (3 ∷ []) $ show ! (Found change then) (word_of s) $ frame ! $ assume ! (‵ (word base (change (word_of s)))) $ suffices ! _ (upd_i 𝓤 (⟦ I ⟧ ∗ ⟦ then (word_of s) ⟧)) $
          rewrite ! 0 (λ (n : ℕ). ‵ (word base n)) turned refl $
          -- [word; logs; at log; at first; runs; way; auth; auth; C]
          move ! (0 ∷ 1 ∷ 4 ∷ 5 ∷ 6 ∷ 7 ∷ 8 ∷ []) $ types.Kit.group ! 7 $
          use1 𝓛 (‵ I ⊛ ‵ (gate_owns base z gone log)) (goes_first log s' so' (inr e)) $ split ! $ frame ! $
          by ! (tells 0 log first (word_of s) (gone, 0 ∷ []) (prefix_trans first [] (0 ∷ []) within (0 ∷ [], refl), (λ _. (refl, refl)), λ some. absurd (omega arith))))
      tail_ends true e =
          let two : first_of s.tail_left s.front_left ≡ 1 ∷ [] = λ i. first_of (so.2 i) (e i) in
          let found : word_of s % 4 ≡ 2 = (let flagged : flag s.tail_left ≡ 0 = ap flag so.2 in let unflagged : flag s.front_left ≡ 1 = ap flag e in omega arith) in
          qed 𝓛 (‵ (word base (word_of s)) ∷ ‵ (now z.log (published s)) ∷ ‵ (now z.first (first_of s.tail_left s.front_left)) ∷ ‵ (runs base z s') ∷ ‵ (way_back base z.size)
          ∷ ‵ (fauth z.tail (tail_at 𝓛 base z s')) ∷ ‵ (fauth z.front (front_at 𝓛 base z s')) ∷ ‵ C ∷ ‵ (at_least log_order z.first first) ∷ []) ∵
          move ! (2 ∷ []) $ rewrite ! 0 (λ (l : List ℕ). ‵ (now z.first l)) two refl $ move ! (0 ∷ 8 ∷ []) $
          use2 𝓛 (given (IsPrefix first (1 ∷ [])) (‵ (now z.first (1 ∷ [])) ⊛ ‵ (at_least log_order z.first first))) (latest_bounds log_order 𝓛 full_share z.first (1 ∷ []) first) $ learn ! (λ within. split ! $
          use1 𝓛 (‵ (now z.first (1 ∷ [])) ⊛ ‵ (at_least log_order z.first (1 ∷ []))) (latest_shows log_order 𝓛 full_share z.first (1 ∷ []) (1 ∷ []) ([], refl)) $ split ! $
          toss ! $
          -- [at first; at least; word; log; runs; way; auth; auth; C]
          move ! (1 ∷ []) $ toss ! $ move ! (2 ∷ []) $
          use1 𝓛 (‵ (now z.log (published s)) ⊛ ‵ (at_least log_order z.log log)) (latest_shows log_order 𝓛 full_share z.log (published s) log ([], append-nil log ∙ so.1)) $ split ! $ toss ! $
          -- [at log; at first; word; runs; way; auth; auth; C]
          suffices ! _ (upd_i 𝓤 Z) $ move ! (2 ∷ []) $ show ! (Found change then) (word_of s) $ frame ! $ assume ! (‵ (word base (change (word_of s)))) $ suffices ! _ (upd_i 𝓤 (⟦ I ⟧ ∗ ⟦ then (word_of s) ⟧)) $
          rewrite ! 0 (λ (n : ℕ). ‵ (word base n)) turned refl $
          -- [word; at log; at first; runs; way; auth; auth; C]
          move ! (0 ∷ 3 ∷ 4 ∷ 5 ∷ 6 ∷ 7 ∷ []) $ types.Kit.group ! 6 $
          use1 𝓛 (‵ I ⊛ ‵ (gate_owns base z last log)) (goes_last log s' so' refl e) $ split ! $ frame ! $
          by ! (tells 0 log first (word_of s) (last, 1 ∷ []) (within, (λ none. absurd (omega arith)), λ _. refl)))

    pub tail_leaves : ⟦ gate_owns base z 0 log ⟧ ∗ ⟦ bytes_at base (length log) items ⟧ ∗ ⟦ known_owns base z learnt first ⟧ ⊢ step change then
    tail_leaves = qed 𝓛 (‵ (gate_owns base z 0 log) ∷ ‵ (bytes_at base (length log) items) ∷ ‵ (known_owns base z learnt first) ∷ []) ∵ fsplit ! $
        by ! (inside 𝓛 base z change then (A.obs z.tail (view log false) ∗ ⟦ bytes_at base (length log) items ⟧ ∗ ⟦ known_owns base z learnt first ⟧)
        (qed 𝓛 (‵ I ∷ ‵ C ∷ ‵ (fobs z.tail (view log false)) ∷ ‵ (bytes_at base (length log) items) ∷ ‵ (known_owns base z learnt first) ∷ []) ∵ move ! (0 ∷ 2 ∷ []) $
        use2 𝓛 (some (λ (s : State). given (TailSees 𝓛 base z log s) (‵ (memory base z s) ⊛ (‵ (fobs z.tail (view log false)) ⊛ ‵ (fauth z.tail (tail_at 𝓛 base z s))) ⊛ ‵ (fauth z.front (front_at 𝓛 base z s)))))
        (tail_opens 𝓛 base z log) $ pick ! (λ s. learn ! (λ so. split3 ! $
        let u : State = s' s so in
        -- [memory; the view; auth of the front; C; the bytes; known]
        move ! (1 ∷ []) $ use1 𝓛 (raw (upd 𝓤 (A.obs z.tail (view log true) ∗ A.auth z.tail (tail_at 𝓛 base z u))))
        (reset 𝓛 base z z.tail (view log false) (tail_at 𝓛 base z s) (tail_at 𝓛 base z u) (view log true) (λ i. view (sym so.1 i) true)) $
        settle 𝓛 Z (‵ (fobs z.tail (view log true)) ⊛ ‵ (fauth z.tail (tail_at 𝓛 base z u))) $ split ! $ toss ! $
        -- [auth; memory; auth of the front; C; the bytes; known]
        move ! (5 ∷ []) $ fsplit ! $ toss ! $ move ! (2 ∷ []) $ fsplit3 ! $ move ! (2 ∷ []) $ fsplit ! $ fsplit3 ! $
        -- [pending; fetched; rest; way; word; logs; at first; auth; auth of the front; C; the bytes]
        move ! (2 ∷ []) $ toss ! $ move ! (9 ∷ []) $ rewrite ! 0 (λ (k : ℕ). ‵ (bytes_at base k items)) (was s so) refl $
        move ! (1 ∷ 2 ∷ 0 ∷ []) $ fjoin3 ! $
        -- [runs; way; word; logs; at first; auth; auth of the front; C]
        move ! (3 ∷ []) $ fsplit ! $
        -- [log; first; runs; way; word; at first; auth; auth of the front; C]
        move ! (4 ∷ 0 ∷ 1 ∷ 2 ∷ 3 ∷ 6 ∷ 7 ∷ 8 ∷ 5 ∷ []) $ by ! (tail_ends s so s.front_left refl)))))

  module _ (log learnt first : List ℕ) (small : z.size ≤ 65536) where
    abbrev change₂ : ℕ → ℕ
    change₂ n = (n + 2) % 2 ^ 64

    abbrev then₂ : ℕ → Fml
    then₂ = leaving 1 log first

    abbrev Y : SProp 𝓤
    Y = ex 𝓤 (Found change₂ then₂)

    module _ (s : State) (so : FrontSees 𝓛 base z log s) where
      abbrev t' : State
      t' = record { fetched = s.fetched; pending = s.pending; rest = s.rest; tail_left = s.tail_left; front_left = true }

      keeps : Holds z.size t'
      keeps = record { fits = so.0.fits; filled = so.0.filled }

      turned₂ : change₂ (word_of s) ≡ word_of t'
      turned₂ = let low = flag_small s.tail_left in let bound = so.0.fits in let flagged : flag s.front_left ≡ 0 = ap flag so.2 in omega arith

      begins : IsPrefix log (published s)
      begins = (s.pending, ap (λ (l : List ℕ). l ++ s.pending) so.1)

      abbrev Front-has : Bool → SProp 𝓤
      Front-has b = ⟦ word base (word_of s) ⟧ ∗ ⟦ now z.log (published s) ⟧ ∗ ⟦ now z.first (first_of s.tail_left s.front_left) ⟧ ∗ ⟦ runs base z t' ⟧ ∗ ⟦ way_back base z.size ⟧
          ∗ A.auth z.tail (tail_at 𝓛 base z t') ∗ A.auth z.front (front_at 𝓛 base z t') ∗ ⟦ C ⟧ ∗ ⟦ at_least log_order z.first first ⟧

      front_ends : (b : Bool) → s.tail_left ≡ b → Front-has b ⊢ upd 𝓤 Y
      front_ends false e =
          let none : first_of s.tail_left s.front_left ≡ [] = λ i. first_of (e i) (so.2 i) in
          let found : word_of s % 4 ≡ 0 = (let flagged : flag s.front_left ≡ 0 = ap flag so.2 in let unflagged : flag s.tail_left ≡ 0 = ap flag e in omega arith) in
          let one : 1 ∷ [] ≡ first_of t'.tail_left t'.front_left = λ i. first_of (sym e i) true in
          qed 𝓛 (‵ (word base (word_of s)) ∷ ‵ (now z.log (published s)) ∷ ‵ (now z.first (first_of s.tail_left s.front_left)) ∷ ‵ (runs base z t') ∷ ‵ (way_back base z.size)
          ∷ ‵ (fauth z.tail (tail_at 𝓛 base z t')) ∷ ‵ (fauth z.front (front_at 𝓛 base z t')) ∷ ‵ C ∷ ‵ (at_least log_order z.first first) ∷ []) ∵
          move ! (2 ∷ []) $ rewrite ! 0 (λ (l : List ℕ). ‵ (now z.first l)) none refl $ move ! (0 ∷ 8 ∷ []) $
          use2 𝓛 (given (IsPrefix first []) (‵ (now z.first []) ⊛ ‵ (at_least log_order z.first first))) (latest_bounds log_order 𝓛 full_share z.first [] first) $ learn ! (λ within. split ! $
          use1 𝓛 (raw (upd 𝓤 ⟦ now z.first (1 ∷ []) ⟧)) (latest_grows log_order 𝓛 z.first [] (1 ∷ []) (1 ∷ [], refl)) $ settle 𝓛 Y (‵ (now z.first (1 ∷ []))) $ suffices ! _ (upd_i 𝓤 Y) $
          use1 𝓛 (‵ (now z.first (1 ∷ [])) ⊛ ‵ (at_least log_order z.first (1 ∷ []))) (latest_shows log_order 𝓛 full_share z.first (1 ∷ []) (1 ∷ []) ([], refl)) $ split ! $
          -- [first; at first; at least; word; log; runs; way; auth; auth; C]
          move ! (2 ∷ []) $ toss ! $ move ! (3 ∷ []) $
          use1 𝓛 (‵ (now z.log (published s)) ⊛ ‵ (at_least log_order z.log log)) (latest_shows log_order 𝓛 full_share z.log (published s) log begins) $ split ! $
          -- [log; at log; first; at first; word; runs; way; auth; auth; C]
          move ! (2 ∷ []) $ rewrite ! 0 (λ (l : List ℕ). ‵ (now z.first l)) one refl $ move ! (1 ∷ 0 ∷ []) $ fjoin ! $
          -- [logs; at log; at first; word; runs; way; auth; auth; C]
          move ! (3 ∷ []) $ show ! (Found change₂ then₂) (word_of s) $ frame ! $ assume ! (‵ (word base (change₂ (word_of s)))) $ suffices ! _ (upd_i 𝓤 (⟦ I ⟧ ∗ ⟦ then₂ (word_of s) ⟧)) $
          rewrite ! 0 (λ (n : ℕ). ‵ (word base n)) turned₂ refl $
          -- [word; logs; at log; at first; runs; way; auth; auth; C]
          move ! (0 ∷ 1 ∷ 4 ∷ 5 ∷ 6 ∷ 7 ∷ 8 ∷ []) $ types.Kit.group ! 7 $
          use1 𝓛 (‵ I ⊛ ‵ (gate_owns base z gone log)) (goes_first log t' keeps (inl e)) $ split ! $ frame ! $
          by ! (tells 1 log first (word_of s) (gone, 1 ∷ []) (prefix_trans first [] (1 ∷ []) within (1 ∷ [], refl), (λ _. (refl, refl)), λ some. absurd (omega arith))))
      front_ends true e =
          let two : first_of s.tail_left s.front_left ≡ 0 ∷ [] = λ i. first_of (e i) (so.2 i) in
          let found : word_of s % 4 ≡ 1 = (let flagged : flag s.front_left ≡ 0 = ap flag so.2 in let unflagged : flag s.tail_left ≡ 1 = ap flag e in omega arith) in
          qed 𝓛 (‵ (word base (word_of s)) ∷ ‵ (now z.log (published s)) ∷ ‵ (now z.first (first_of s.tail_left s.front_left)) ∷ ‵ (runs base z t') ∷ ‵ (way_back base z.size)
          ∷ ‵ (fauth z.tail (tail_at 𝓛 base z t')) ∷ ‵ (fauth z.front (front_at 𝓛 base z t')) ∷ ‵ C ∷ ‵ (at_least log_order z.first first) ∷ []) ∵
          move ! (2 ∷ []) $ rewrite ! 0 (λ (l : List ℕ). ‵ (now z.first l)) two refl $ move ! (0 ∷ 8 ∷ []) $
          use2 𝓛 (given (IsPrefix first (0 ∷ [])) (‵ (now z.first (0 ∷ [])) ⊛ ‵ (at_least log_order z.first first))) (latest_bounds log_order 𝓛 full_share z.first (0 ∷ []) first) $ learn ! (λ within. split ! $
          use1 𝓛 (‵ (now z.first (0 ∷ [])) ⊛ ‵ (at_least log_order z.first (0 ∷ []))) (latest_shows log_order 𝓛 full_share z.first (0 ∷ []) (0 ∷ []) ([], refl)) $ split ! $
          toss ! $
          -- [at first; at least; word; log; runs; way; auth; auth; C]
          move ! (1 ∷ []) $ toss ! $ move ! (2 ∷ []) $
          use1 𝓛 (‵ (now z.log (published s)) ⊛ ‵ (at_least log_order z.log log)) (latest_shows log_order 𝓛 full_share z.log (published s) log begins) $ split ! $ toss ! $
          -- [at log; at first; word; runs; way; auth; auth; C]
          suffices ! _ (upd_i 𝓤 Y) $ move ! (2 ∷ []) $ show ! (Found change₂ then₂) (word_of s) $ frame ! $ assume ! (‵ (word base (change₂ (word_of s)))) $ suffices ! _ (upd_i 𝓤 (⟦ I ⟧ ∗ ⟦ then₂ (word_of s) ⟧)) $
          rewrite ! 0 (λ (n : ℕ). ‵ (word base n)) turned₂ refl $
          -- [word; at log; at first; runs; way; auth; auth; C]
          move ! (0 ∷ 3 ∷ 4 ∷ 5 ∷ 6 ∷ 7 ∷ []) $ types.Kit.group ! 6 $
          use1 𝓛 (‵ I ⊛ ‵ (gate_owns base z last log)) (goes_last log t' keeps e refl) $ split ! $ frame ! $
          by ! (tells 1 log first (word_of s) (last, 0 ∷ []) (within, (λ none. absurd (omega arith)), λ _. refl)))

    pub front_leaves : ⟦ gate_owns base z 1 log ⟧ ∗ ⟦ bytes_at base 0 log ⟧ ∗ ⟦ known_owns base z learnt first ⟧ ⊢ step change₂ then₂
    front_leaves = qed 𝓛 (‵ (gate_owns base z 1 log) ∷ ‵ (bytes_at base 0 log) ∷ ‵ (known_owns base z learnt first) ∷ []) ∵ fsplit ! $
        by ! (inside 𝓛 base z change₂ then₂ (A.obs z.front (view log false) ∗ ⟦ bytes_at base 0 log ⟧ ∗ ⟦ known_owns base z learnt first ⟧)
        (qed 𝓛 (‵ I ∷ ‵ C ∷ ‵ (fobs z.front (view log false)) ∷ ‵ (bytes_at base 0 log) ∷ ‵ (known_owns base z learnt first) ∷ []) ∵ move ! (0 ∷ 2 ∷ []) $
        use2 𝓛 (some (λ (s : State). given (FrontSees 𝓛 base z log s) (‵ (memory base z s) ⊛ (‵ (fobs z.front (view log false)) ⊛ ‵ (fauth z.front (front_at 𝓛 base z s))) ⊛ ‵ (fauth z.tail (tail_at 𝓛 base z s)))))
        (front_opens 𝓛 base z log) $ pick ! (λ s. learn ! (λ so. split3 ! $
        let u : State = t' s so in
        -- [memory; the view; auth of the front; C; the bytes; known]
        move ! (1 ∷ []) $ use1 𝓛 (raw (upd 𝓤 (A.obs z.front (view log true) ∗ A.auth z.front (front_at 𝓛 base z u))))
        (reset 𝓛 base z z.front (view log false) (front_at 𝓛 base z s) (front_at 𝓛 base z u) (view log true) (λ i. view (sym so.1 i) true)) $
        settle 𝓛 Y (‵ (fobs z.front (view log true)) ⊛ ‵ (fauth z.front (front_at 𝓛 base z u))) $ split ! $ toss ! $
        -- [auth; memory; auth of the tail; C; the bytes; known]
        move ! (5 ∷ []) $ fsplit ! $ toss ! $ move ! (2 ∷ []) $ fsplit3 ! $ move ! (2 ∷ []) $ fsplit ! $ fsplit3 ! $
        -- [pending; fetched; rest; way; word; logs; at first; auth; auth of the tail; C; the bytes]
        move ! (1 ∷ []) $ toss ! $ move ! (9 ∷ []) $ rewrite ! 0 (λ (l : List ℕ). ‵ (bytes_at base 0 l)) so.1 refl $
        move ! (1 ∷ 0 ∷ 2 ∷ []) $ fjoin3 ! $
        -- [runs; way; word; logs; at first; auth; auth of the tail; C]
        move ! (3 ∷ []) $ fsplit ! $
        -- [log; first; runs; way; word; at first; auth; auth of the tail; C]
        move ! (4 ∷ 0 ∷ 1 ∷ 2 ∷ 3 ∷ 7 ∷ 6 ∷ 8 ∷ 5 ∷ []) $ by ! (front_ends s so s.tail_left refl)))))
