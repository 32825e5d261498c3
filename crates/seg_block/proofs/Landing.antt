-- One block of words is room for the watermark and for the bytes, and is made of these again. Assumes `Logic`.
use Rattle.std.proofs.Common.{◌≡◌, ℕ, suc, ◌+◌, ◌-◌, ◌*◌, ◌/◌, List, [], ◌∷◌, length, sym, refl, arith, w8, w64}
use seplogic.Ra.Ura.{Ura}
use mir.Syntax.{Ty, ty_int, ty_array}
use base.Logic.{SProp, ent, sep, wand, apply∗}
use base.Fml.{Fml, ftrue, fsep, froom}
use types.Logic.{Logic, sem}
use types.Kit.{‵, raw, ◌⊛◌, ◌$◌, ◌∵◌, !, qed, move, keep, drop as toss, split, fsplit, fsplit3, fjoin, fpick, fpack, frame, assume, suffices, rewrite, use1, use2, done}
use contract.Monad.{fact}
use denote.Builtin.{u64}
use denote.RawPtr.{Ptr, block_ptr, block_of, count_of}
use denote.RawPtr.Room.{past, room_cut, room_glue}
use denote.RawPtr.Bytes.{bytes-room}
use denote.Steps.{nothing}
use Rattle.core.specs.Allocator.{array_of}
use Rattle.libc.specs.Heap.{chunk}
use Rattle.seg_block.specs.Memory.{place, run_owns, bytes_at, word_room, bytes_room, Fits, land_owns, way_back, words_of, IsBlockSize, IsPlaced, home_owns}
use Rattle.seg_block.proofs.Places.{run_out}

abbrev byte : Ty
byte = ty_int w8

abbrev word : Ty
word = ty_int w64

module _ {M : Type 1} {𝓤 : Ura M} (𝓛 : Logic 𝓤) where
  open 𝓛 use {H}

  abbrev ◌⊢◌ : SProp 𝓤 → SProp 𝓤 → Type 1
  P ⊢ Q = ent 𝓤 P Q

  abbrev ◌∗◌ : SProp 𝓤 → SProp 𝓤 → SProp 𝓤
  P ∗ Q = sep 𝓤 P Q

  abbrev ⟦◌⟧ : Fml → SProp 𝓤
  ⟦ P ⟧ = sem 𝓛 P

  infix 26 ◌⊢◌
  infixr 35 ◌∗◌
  module _ (b o n : ℕ) (sized : IsBlockSize n) where
    abbrev origin : Ptr
    origin = block_ptr b o

    -- how many words the bytes take, and how many bytes of these are left over
    abbrev m : ℕ
    m = (n + 7) / 8

    abbrev k : ℕ
    k = m * 8 - n

    sum : m * 8 ≡ n + k
    sum = omega arith

    one_more : words_of n ≡ suc m
    one_more = omega arith

    abbrev words : ℕ → ℕ → Fml
    words i e = froom (ty_array word i) b e

    abbrev room : ℕ → ℕ → Fml
    room i e = froom (ty_array byte i) b e

    joins : ⟦ word_room origin ⟧ ∗ ⟦ bytes_room origin n ⟧ ∗ ⟦ way_back origin n ⟧ ⊢ ⟦ home_owns origin n ⟧ ∗ ⟦ bytes_room origin n ⟧
    joins = qed 𝓛 (‵ (word_room origin) ∷ ‵ (bytes_room origin n) ∷ ‵ (way_back origin n) ∷ []) ∵ move ! (0 ∷ 2 ∷ []) $ fjoin ! $
        nothing ! $ fpack ! (IsPlaced origin n) (λ _. ftrue) (tt, sized) $ fjoin ! $ done !

    pub lays : ⟦ land_owns chunk u64 origin (words_of n) ⟧ ⊢ ⟦ home_owns origin n ⟧ ∗ ⟦ bytes_room origin n ⟧
    lays =
        let Back : SProp 𝓤 = wand 𝓤 ⟦ room (m * 8) (o + 8) ⟧ ⟦ words m (o + 8) ⟧ in
        qed 𝓛 (‵ (land_owns chunk u64 origin (words_of n)) ∷ []) ∵ fsplit3 ! $ fpick ! (λ fits. toss ! $
        -- [the room; the token]
        use1 𝓛 (‵ (words (words_of n) o)) (𝓛.laws.raw-room (ty_array word (words_of n)) b o) $
        rewrite ! 0 (λ (i : ℕ). ‵ (words i o)) one_more refl $
        use1 𝓛 (‵ (froom word b o) ⊛ ‵ (words m (o + 8))) (𝓛.laws.room_uncons word m b o) $ split ! $ move ! (1 ∷ []) $
        use1 𝓛 (‵ (room (m * 8) (o + 8)) ⊛ raw Back) (𝓛.laws.room_as (ty_array word m) (ty_array byte (m * 8)) b (o + 8) (omega arith) tt) $ split ! $
        -- [the bytes; the way back; the word; the token]
        rewrite ! 0 (λ (i : ℕ). ‵ (room i (o + 8))) sum refl $
        use1 𝓛 (‵ (room n (o + 8)) ⊛ ‵ (room k (past byte n (o + 8)))) (room_cut 𝓛 byte n k b (o + 8)) $ split ! $
        -- [the bytes; the rest; the way back; the word; the token]
        suffices ! _ joins $ move ! (3 ∷ []) $ frame ! $ frame ! $ assume ! (‵ (fsep (word_room origin) (bytes_room origin n))) $ fsplit ! $
        -- [the word; the bytes; the rest; the way back; the token]
        move ! (1 ∷ 2 ∷ []) $ use2 𝓛 (‵ (room (n + k) (o + 8))) (room_glue 𝓛 byte n k b (o + 8)) $ rewrite ! 0 (λ (i : ℕ). ‵ (room i (o + 8))) (sym sum) refl $
        move ! (0 ∷ 2 ∷ []) $ use2 𝓛 (‵ (words m (o + 8))) (apply∗ 𝓤 ⟦ room (m * 8) (o + 8) ⟧ ⟦ words m (o + 8) ⟧) $
        move ! (1 ∷ 0 ∷ []) $ use2 𝓛 (‵ (words (suc m) o)) (𝓛.laws.room_cons word m b o) $ rewrite ! 0 (λ (i : ℕ). ‵ (words i o)) (sym one_more) refl $
        use1 𝓛 (‵ (froom (array_of u64 (words_of n)) b o)) (𝓛.laws.room-raw (ty_array word (words_of n)) b o) $ fjoin ! $
        nothing ! $ fpack ! (Fits u64 (words_of n)) (λ _. ftrue) fits $ fjoin ! $ done !)

  -- the block again
  pub razes : (w : Ptr) (n : ℕ) (p : Ptr) (items : List ℕ) → p ≡ place w 0 → length items ≡ n → ⟦ home_owns w n ⟧ ∗ ⟦ run_owns p items ⟧ ⊢ ⟦ land_owns chunk u64 w (words_of n) ⟧
  razes w n p items is long =
      let from : count_of w + (8 + 0) ≡ count_of w + 8 = omega arith in
      qed 𝓛 (‵ (home_owns w n) ∷ ‵ (run_owns p items) ∷ []) ∵ fsplit3 ! $ fpick ! (λ at. toss ! $ move ! (2 ∷ []) $
      use1 𝓛 (‵ (bytes_at w 0 items)) (run_out 𝓛 w 0 items p at.0 is) $
      use1 𝓛 (‵ (froom (ty_array byte (length items)) (block_of w) (count_of w + (8 + 0)))) (bytes-room 𝓛 items (block_of w) (count_of w + (8 + 0))) $
      rewrite ! 0 (λ (r : ℕ × ℕ). ‵ (froom (ty_array byte r.0) (block_of w) r.1)) {x = (n, count_of w + 8)} {y = (length items, count_of w + (8 + 0))} (λ i. (long i, from i)) refl $
      move ! (1 ∷ 0 ∷ []) $ fjoin ! $ use2 𝓛 (‵ (land_owns chunk u64 w (words_of n))) (apply∗ 𝓤 ⟦ fsep (word_room w) (bytes_room w n) ⟧ ⟦ land_owns chunk u64 w (words_of n) ⟧) $ done !)

  pub housed : (w : Ptr) (n : ℕ) → ⟦ home_owns w n ⟧ ⊢ fact 𝓤 (IsPlaced w n)
  housed w n = qed 𝓛 (‵ (home_owns w n) ∷ []) ∵ fsplit ! $ keep ! (0 ∷ []) $ done !
