-- The tail's commit and the front's look, as steps on the word. Assumes `Logic`.
use Rattle.std.proofs.Common.{◌≡◌, ℕ, ◌+◌, ◌-◌, ◌*◌, ◌/◌, ◌%◌, ◌^◌, ◌≤◌, Bool, true, false, List, [], ◌∷◌, ◌++◌, length, take, drop, sym, refl, ap, ◌∙◌, subst, inl, inr, append_assoc, append-nil, length-append, take-append-drop, arith, true≢false}
use mathlib.Core.List.{IsPrefix}
use seplogic.Ra.Ura.{Ura}
use base.Fraction.{full_share}
use base.Logic.{SProp, ent, sep, ex, upd, upd_i}
use base.Fml.{Fml, ftrue, fsep, fex, fobs, fauth}
use base.Growing.{latest, at_least}
use types.Logic.{Logic, sem}
use types.Growing.{latest_grows, latest_shows, latest_bounds}
use types.Kit.{‵, raw, ◌⊛◌, some, given, ◌$◌, ◌∵◌, !, qed, by, move, keep, drop as toss, split, split3, fsplit, fsplit3, fjoin, fjoin3, fpack, pick, learn, show, frame, assume, suffices, settle, rewrite, use1, use2, use3, done}
use denote.RawPtr.{Ptr, block_ptr, block_of, count_of}
use denote.Steps.{nothing}
use Rattle.core.specs.Sync.RawAtomic.{asks, always}
use Rattle.seg_block.specs.Memory.{known, bytes_at, word}
use Rattle.seg_block.specs.Rule.{Names, State, published, view, Holds, flag, word_of, if_left, first_of, log_order, memory, Inner, common, gate_owns, known_owns}
use Rattle.seg_block.proofs.Asks.{Lies}
use Rattle.seg_block.proofs.Pieces.{cut_at, glue_at}
use Rattle.seg_block.proofs.Parts.{tail_at, front_at, inside, reset, TailSees, FrontSees, tail_opens, front_opens, closes}

pub flag_small : (y : Bool) → flag y ≤ 1
flag_small true = omega arith
flag_small false = omega arith

module _ {M : Type 1} {𝓤 : Ura M} (𝓛 : Logic 𝓤) (base : Ptr) (z : Names) where
  open 𝓛 use {H, A}

  abbrev ◌⊢◌ : SProp 𝓤 → SProp 𝓤 → Type 1
  P ⊢ Q = ent 𝓤 P Q

  abbrev ◌∗◌ : SProp 𝓤 → SProp 𝓤 → SProp 𝓤
  P ∗ Q = sep 𝓤 P Q

  abbrev ⟦◌⟧ : Fml → SProp 𝓤
  ⟦ P ⟧ = sem 𝓛 P

  infix 26 ◌⊢◌
  infixr 35 ◌∗◌
  abbrev I : Fml
  I = Inner base z

  abbrev C : Fml
  C = common base z

  abbrev step : (ℕ → ℕ) → (ℕ → Fml) → SProp 𝓤
  step change after = asks 𝓛 (block_ptr (block_of base) (count_of base)) change always after

  abbrev Found : (ℕ → ℕ) → (ℕ → Fml) → ℕ → SProp 𝓤
  Found change after = Lies 𝓛 (block_of base) (count_of base) change after I

  abbrev now : ℕ → List ℕ → Fml
  now γ l = latest log_order full_share γ l

  module _ (log items : List ℕ) (count : ℕ) (near : count ≤ length items) (fits : length log + count ≤ z.size) (small : z.size ≤ 65536) where
    abbrev more : List ℕ
    more = log ++ take count items

    abbrev change : ℕ → ℕ
    change n = (n + 4 * count) % 2 ^ 64

    -- the tail after its commit, with the rest of its bytes, and what is known from then on
    abbrev pub committed : Fml
    committed = fsep (gate_owns base z 0 more) (fsep (bytes_at base (length log + count) (drop count items)) (known_owns base z more []))

    abbrev Z : SProp 𝓤
    Z = ex 𝓤 (Found change (λ _. committed))

    pub commits : ⟦ gate_owns base z 0 log ⟧ ∗ ⟦ bytes_at base (length log) items ⟧ ⊢ step change (λ _. committed)
    commits = qed 𝓛 (‵ (gate_owns base z 0 log) ∷ ‵ (bytes_at base (length log) items) ∷ []) ∵ fsplit ! $
        by ! (inside 𝓛 base z change (λ _. committed) (A.obs z.tail (view log false) ∗ ⟦ bytes_at base (length log) items ⟧)
        (qed 𝓛 (‵ I ∷ ‵ C ∷ ‵ (fobs z.tail (view log false)) ∷ ‵ (bytes_at base (length log) items) ∷ []) ∵ move ! (0 ∷ 2 ∷ []) $
        use2 𝓛 (some (λ (s : State). given (TailSees 𝓛 base z log s) (‵ (memory base z s) ⊛ (‵ (fobs z.tail (view log false)) ⊛ ‵ (fauth z.tail (tail_at 𝓛 base z s))) ⊛ ‵ (fauth z.front (front_at 𝓛 base z s)))))
        (tail_opens 𝓛 base z log) $ pick ! (λ s. learn ! (λ so. split3 ! $
        let new : List ℕ = take count items in
        let s' : State = record { fetched = s.fetched; pending = s.pending ++ new; rest = s.rest; tail_left = s.tail_left; front_left = s.front_left } in
        let grew : published s' ≡ more = sym (append_assoc s.fetched s.pending new) ∙ ap (λ (l : List ℕ). l ++ new) (sym so.1) in
        let back : published s ++ new ≡ published s' = append_assoc s.fetched s.pending new in
        let whole : items ≡ new ++ drop count items = sym (take-append-drop count items) in
        let long : length items ≡ length new + length (drop count items) = ap length whole ∙ length-append new (drop count items) in
        let rest : length (drop count items) ≡ length items - count = lib.ListN.length-drop count items in
        let took : length new ≡ count = omega arith in
        let seen : length log ≡ length s.fetched + length s.pending = ap length so.1 ∙ length-append s.fetched s.pending in
        let was : length log ≡ length (published s) = ap length so.1 in
        let will : length (published s') ≡ length log + count = ap length grew ∙ length-append log new ∙ omega arith in
        let low = flag_small s.front_left in let low' = flag_small s.tail_left in
        let turned : change (word_of s) ≡ word_of s' = omega arith in
        let so' : Holds z.size s' = record { fits = omega arith; filled = λ e. absurd (true≢false (sym e ∙ so.2)) } in
        -- [memory; the view; auth of the front; C; the bytes]
        move ! (1 ∷ []) $ use1 𝓛 (raw (upd 𝓤 (A.obs z.tail (view more false) ∗ A.auth z.tail (tail_at 𝓛 base z s'))))
        (reset 𝓛 base z z.tail (view log false) (tail_at 𝓛 base z s) (tail_at 𝓛 base z s') (view more false) (λ i. view (grew i) (so.2 i))) $
        settle 𝓛 Z (‵ (fobs z.tail (view more false)) ⊛ ‵ (fauth z.tail (tail_at 𝓛 base z s'))) $ split ! $
        -- [obs; auth; memory; auth of the front; C; the bytes]
        move ! (2 ∷ []) $ fsplit3 ! $ move ! (2 ∷ []) $ fsplit ! $ move ! (3 ∷ []) $ fsplit ! $
        -- [the log; the first; the runs; the way back; the word; ..]
        use1 𝓛 (raw (upd 𝓤 ⟦ now z.log (published s') ⟧)) (latest_grows log_order 𝓛 z.log (published s) (published s') (new, back)) $
        settle 𝓛 Z (‵ (now z.log (published s'))) $ suffices ! _ (upd_i 𝓤 Z) $
        use1 𝓛 (‵ (now z.log (published s')) ⊛ ‵ (at_least log_order z.log more)) (latest_shows log_order 𝓛 full_share z.log (published s') more ([], append-nil more ∙ sym grew)) $ split ! $
        move ! (2 ∷ []) $ use1 𝓛 (‵ (now z.first (first_of s.tail_left s.front_left)) ⊛ ‵ (at_least log_order z.first [])) (latest_shows log_order 𝓛 full_share z.first (first_of s.tail_left s.front_left) [] (first_of s.tail_left s.front_left, refl)) $ split ! $
        -- [first; at first; the log; at log; the runs; the way back; the word; obs; auth; auth of the front; C; the bytes]
        move ! (2 ∷ 0 ∷ []) $ fjoin ! $ move ! (2 ∷ 1 ∷ []) $ fjoin ! $
        -- [known; logs; the runs; the way back; the word; obs; auth; auth of the front; C; the bytes]
        move ! (9 ∷ []) $ rewrite ! 0 (λ (l : List ℕ). ‵ (bytes_at base (length log) l)) whole refl $
        use1 𝓛 (‵ (bytes_at base (length log) new) ⊛ ‵ (bytes_at base (length log + count) (drop count items))) (cut_at 𝓛 base (length log) (length log + count) new (drop count items) (omega arith)) $ split ! $
        -- [new; rest; known; logs; the runs; the way back; the word; ..]
        move ! (4 ∷ []) $ fsplit3 ! $ move ! (0 ∷ 3 ∷ []) $
        use2 𝓛 (‵ (bytes_at base (length s.fetched) (s.pending ++ new))) (glue_at 𝓛 base (length s.fetched) (length log) s.pending new seen) $
        -- [pending and new; fetched; old rest; rest; known; logs; the way back; the word; ..]
        move ! (2 ∷ []) $ toss ! $ nothing ! $ rewrite ! 0 (λ (y : Bool). ‵ (if_left y (bytes_at base (length (published s')) s'.rest))) (sym so.2) refl $
        move ! (1 ∷ 2 ∷ 0 ∷ []) $ fjoin3 ! $
        -- [the runs; rest; known; logs; the way back; the word; obs; auth; auth of the front; C]
        move ! (5 ∷ []) $ show ! (Found change (λ _. committed)) (word_of s) $ frame ! $ assume ! (‵ (word base (change (word_of s)))) $ suffices ! _ (upd_i 𝓤 (⟦ I ⟧ ∗ ⟦ committed ⟧)) $
        rewrite ! 0 (λ (n : ℕ). ‵ (word base n)) turned refl $
        -- [the word; the runs; rest; known; logs; the way back; obs; auth; auth of the front; C]
        move ! (1 ∷ 5 ∷ []) $ fjoin ! $ move ! (4 ∷ 0 ∷ []) $ fjoin ! $ move ! (1 ∷ 0 ∷ []) $ fjoin ! $
        -- [memory; rest; known; obs; auth; auth of the front; C]
        move ! (4 ∷ 5 ∷ 0 ∷ []) $ use3 𝓛 (‵ I) (closes 𝓛 base z s' so' (inl so.2)) $ frame ! $
        -- [rest; known; obs; C]
        move ! (3 ∷ 2 ∷ []) $ fjoin ! $ fjoin3 ! $ done !))))

  module _ (log learnt first : List ℕ) where
    -- what the front has fetched after a look that found n
    abbrev pub Saw : ℕ → List ℕ → Type 0
    Saw n l = IsPrefix log l × IsPrefix learnt l × (length l ≤ z.size) × (n / 4 ≡ length l)

    abbrev pub looked : ℕ → List ℕ → Fml
    looked n l = fsep (known (Saw n l)) (fsep (gate_owns base z 1 l) (bytes_at base 0 l))

    abbrev pub sees : ℕ → Fml
    sees n = fex (List ℕ) (looked n)

    abbrev Y : SProp 𝓤
    Y = ex 𝓤 (Found (λ n. n) sees)

    pub looks : ⟦ gate_owns base z 1 log ⟧ ∗ ⟦ bytes_at base 0 log ⟧ ∗ ⟦ known_owns base z learnt first ⟧ ⊢ step (λ n. n) sees
    looks = qed 𝓛 (‵ (gate_owns base z 1 log) ∷ ‵ (bytes_at base 0 log) ∷ ‵ (known_owns base z learnt first) ∷ []) ∵ fsplit ! $
        by ! (inside 𝓛 base z (λ n. n) sees (A.obs z.front (view log false) ∗ ⟦ bytes_at base 0 log ⟧ ∗ ⟦ known_owns base z learnt first ⟧)
        (qed 𝓛 (‵ I ∷ ‵ C ∷ ‵ (fobs z.front (view log false)) ∷ ‵ (bytes_at base 0 log) ∷ ‵ (known_owns base z learnt first) ∷ []) ∵ move ! (0 ∷ 2 ∷ []) $
        use2 𝓛 (some (λ (s : State). given (FrontSees 𝓛 base z log s) (‵ (memory base z s) ⊛ (‵ (fobs z.front (view log false)) ⊛ ‵ (fauth z.front (front_at 𝓛 base z s))) ⊛ ‵ (fauth z.tail (tail_at 𝓛 base z s)))))
        (front_opens 𝓛 base z log) $ pick ! (λ s. learn ! (λ so. split3 ! $
        let l : List ℕ = published s in
        let s' : State = record { fetched = l; pending = []; rest = s.rest; tail_left = s.tail_left; front_left = s.front_left } in
        let same : l ≡ published s' = sym (append-nil l) in
        let alike : length l ≡ length (published s') = ap length same in
        let seen : length s.fetched ≡ length log = ap length (sym so.1) in
        let low = flag_small s.front_left in let low' = flag_small s.tail_left in
        let so' : Holds z.size s' = record { fits = subst (λ (k : ℕ). k ≤ z.size) alike so.0.fits; filled = λ e. subst (λ (k : ℕ). k + length s.rest ≡ z.size) alike (so.0.filled e) } in
        let saw : IsPrefix log l = subst (λ (k : List ℕ). IsPrefix k l) (sym so.1) (s.pending, refl) in
        let short : word_of s / 4 ≡ length l = omega arith in
        let still : word_of s ≡ word_of s' = omega arith in
        -- [memory; the view; auth of the tail; C; the bytes; known]
        move ! (1 ∷ []) $ use1 𝓛 (raw (upd 𝓤 (A.obs z.front (view l false) ∗ A.auth z.front (front_at 𝓛 base z s'))))
        (reset 𝓛 base z z.front (view log false) (front_at 𝓛 base z s) (front_at 𝓛 base z s') (view l false) (λ i. view l (so.2 i))) $
        settle 𝓛 Y (‵ (fobs z.front (view l false)) ⊛ ‵ (fauth z.front (front_at 𝓛 base z s'))) $ split ! $ suffices ! _ (upd_i 𝓤 Y) $
        -- [obs; auth; memory; auth of the tail; C; the bytes; known]
        move ! (2 ∷ []) $ fsplit3 ! $ move ! (2 ∷ []) $ fsplit ! $ move ! (3 ∷ []) $ fsplit ! $
        -- [log; first; runs; way; word; obs; auth; auth of the tail; C; the bytes; known]
        move ! (10 ∷ []) $ fsplit ! $ move ! (2 ∷ 0 ∷ []) $
        use2 𝓛 (given (IsPrefix learnt l) (‵ (now z.log l) ⊛ ‵ (at_least log_order z.log learnt))) (latest_bounds log_order 𝓛 full_share z.log l learnt) $ learn ! (λ within. split ! $
        -- [log; at least; at first; first; runs; way; word; obs; auth; auth of the tail; C; the bytes]
        rewrite ! 0 (λ (k : List ℕ). ‵ (now z.log k)) same refl $ move ! (0 ∷ 3 ∷ []) $ fjoin ! $
        -- [logs; at least; at first; runs; way; word; obs; auth; auth of the tail; C; the bytes]
        move ! (3 ∷ []) $ fsplit3 ! $ rewrite ! 0 (λ (k : ℕ). ‵ (bytes_at base k s.pending)) seen refl $
        -- [pending; none; rest; logs; at least; at first; way; word; obs; auth; auth of the tail; C; the bytes]
        rewrite ! 2 (λ (k : ℕ). ‵ (if_left s.tail_left (bytes_at base k s.rest))) alike refl $
        move ! (12 ∷ 0 ∷ []) $ use2 𝓛 (‵ (bytes_at base 0 (log ++ s.pending))) (glue_at 𝓛 base 0 (length log) log s.pending (omega arith)) $
        rewrite ! 0 (λ (k : List ℕ). ‵ (bytes_at base 0 (k ++ s.pending))) so.1 refl $
        -- [all; none; rest; logs; at least; at first; way; word; obs; auth; auth of the tail; C]
        move ! (1 ∷ []) $ toss ! $ nothing ! $ rewrite ! 0 (λ (y : Bool). ‵ (if_left y (bytes_at base 0 l))) (sym so.2) refl $
        -- [none; all; rest; logs; ..]
        nothing ! $ move ! (0 ∷ 1 ∷ 3 ∷ []) $ fjoin3 ! $
        -- [runs; all; logs; at least; at first; way; word; obs; auth; auth of the tail; C]
        move ! (0 ∷ 5 ∷ []) $ fjoin ! $
        -- [runs and way; all; logs; at least; at first; word; obs; auth; auth of the tail; C]
        move ! (5 ∷ []) $ show ! (Found (λ n. n) sees) (word_of s) $ frame ! $ assume ! (‵ (word base (word_of s))) $ suffices ! _ (upd_i 𝓤 (⟦ I ⟧ ∗ ⟦ sees (word_of s) ⟧)) $
        rewrite ! 0 (λ (n : ℕ). ‵ (word base n)) still refl $
        -- [word; runs and way; all; logs; at least; at first; obs; auth; auth of the tail; C]
        move ! (3 ∷ 1 ∷ []) $ fjoin ! $ move ! (1 ∷ 0 ∷ []) $ fjoin ! $
        -- [memory; all; at least; at first; obs; auth; auth of the tail; C]
        move ! (6 ∷ []) $ rewrite ! 0 (λ (k : List ℕ). ‵ (fauth z.tail (view k s.tail_left))) same refl $
        -- [auth of the tail; memory; all; at least; at first; obs; auth; C]
        move ! (0 ∷ 6 ∷ 1 ∷ []) $ use3 𝓛 (‵ I) (closes 𝓛 base z s' so' (inr so.2)) $ frame ! $
        -- [all; at least; at first; obs; C]
        move ! (4 ∷ 3 ∷ []) $ fjoin ! $ move ! (0 ∷ 1 ∷ []) $ fjoin ! $
        nothing ! $ fpack ! (Saw (word_of s) l) (λ _. ftrue) (saw, within, so.0.fits, short) $ fjoin ! $ fpack ! (List ℕ) (looked (word_of s)) l $
        keep ! (0 ∷ []) $ done !)))))
