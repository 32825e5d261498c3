-- What a room holds when a piece was put behind its first bytes.
use Rattle.std.proofs.Common.{◌≡◌, ◌≤◌, ◌+◌, ℕ, List, [], ◌++◌, length, take, drop, refl, sym, ap, ◌∙◌, arith, append_assoc, append-nil}
use Rattle.std.proofs.lemmas.List.{length-take, length-drop, take_at, take-take, drop-drop}
use Rattle.std.proofs.Math.Seq.{take-add, take-append-add, take-length}
use Rattle.std.proofs.lemmas.Simd.{put_chunk_is}
use Rattle.std.specs.Simd.Lanes.{put_chunk}

-- a piece of a known length behind the first `n` bytes
pub piece_put : (room new piece rest : List ℕ) (n k : ℕ) → n ≤ length room → length piece ≡ k → new ≡ take n room ++ (piece ++ rest) → take (n + k) new ≡ take n room ++ piece
piece_put room new piece rest n k within size is =
    let front = take n room in
    let front_len : length front ≡ n = omega (arith, length-take n room, within) in
    ap (λ (x : List ℕ). take (n + k) x) is
    ∙ ap (λ (m : ℕ). take (m + k) (front ++ (piece ++ rest))) (sym front_len)
    ∙ take-append-add front (piece ++ rest) k
    ∙ ap (λ (x : List ℕ). front ++ x) (take_at piece rest k size)

-- the front of a copy that went further
pub front_copied : (room old y : List ℕ) (at len done : ℕ) → length old ≡ at → len ≤ done → take (at + done) room ≡ old ++ take done y → take (at + len) room ≡ old ++ take len y
front_copied room old y at len done size further is =
    sym (take-take (at + len) (at + done) room (omega (arith, further)))
    ∙ ap (λ (x : List ℕ). take (at + len) x) is
    ∙ ap (λ (n : ℕ). take (n + len) (old ++ take done y)) (sym size)
    ∙ take-append-add old (take done y) len
    ∙ ap (λ (x : List ℕ). old ++ x) (take-take len done y further)

-- the front of such a piece
pub front_put : (room new piece rest : List ℕ) (n k : ℕ) → n ≤ length room → k ≤ length piece → new ≡ take n room ++ (piece ++ rest) → take (n + k) new ≡ take n room ++ take k piece
front_put room new piece rest n k within few is =
    front_copied new (take n room) piece n k (length piece) (omega (arith, length-take n room, within)) few
    (piece_put room new piece rest n (length piece) within refl is ∙ ap (λ (x : List ℕ). take n room ++ x) (sym (take-length piece)))

-- a lane that was stored
pub lane_put : (room bytes : List ℕ) (at from : ℕ) → at + 16 ≤ length room → from + 16 ≤ length bytes → put_chunk at room (take 16 (drop from bytes)) ≡ take at room ++ (take 16 (drop from bytes) ++ drop (at + 16) room)
lane_put room bytes at from room_within bytes_within =
    let lane = take 16 (drop from bytes) in
    let size : length lane ≡ 16 = omega (arith, length-take 16 (drop from bytes), length-drop from bytes, bytes_within) in
    put_chunk_is at room lane (omega (arith, size, room_within))
    ∙ ap (λ (x : List ℕ). take at room ++ (lane ++ x)) (ap (λ (n : ℕ). drop n (drop at room)) size ∙ drop-drop 16 at room)

-- a payload that is no longer than a lane
pub short_copied : (room new bytes : List ℕ) (at from len : ℕ) → at + 16 ≤ length room → from + 16 ≤ length bytes → len ≤ 16
    → new ≡ take at room ++ (take 16 (drop from bytes) ++ drop (at + 16) room) → take (at + len) new ≡ take at room ++ take len (drop from bytes)
short_copied room new bytes at from len room_within bytes_within short is =
    let lane = take 16 (drop from bytes) in
    let size : length lane ≡ 16 = omega (arith, length-take 16 (drop from bytes), length-drop from bytes, bytes_within) in
    front_put room new lane (drop (at + 16) room) at len (omega (arith, room_within)) (omega (arith, size, short)) is
    ∙ ap (λ (x : List ℕ). take at room ++ x) (take-take len 16 (drop from bytes) short)

-- one more lane of a copy
pub lane_copied : (room new old bytes : List ℕ) (at from done : ℕ) → at + done + 16 ≤ length room → from + done + 16 ≤ length bytes
    → new ≡ take (at + done) room ++ (take 16 (drop (from + done) bytes) ++ drop (at + done + 16) room)
    → take (at + done) room ≡ old ++ take done (drop from bytes) → take (at + (done + 16)) new ≡ old ++ take (done + 16) (drop from bytes)
lane_copied room new old bytes at from done room_within bytes_within is so_far =
    let lane = take 16 (drop (from + done) bytes) in
    let size : length lane ≡ 16 = omega (arith, length-take 16 (drop (from + done) bytes), length-drop (from + done) bytes, bytes_within) in
    let put = piece_put room new lane (drop (at + done + 16) room) (at + done) 16 (omega (arith, room_within)) size is in
    let place : at + (done + 16) ≡ at + done + 16 = omega arith in
    let moved : drop (from + done) bytes ≡ drop done (drop from bytes) = sym (drop-drop done from bytes) in
    let joined : take done (drop from bytes) ++ lane ≡ take (done + 16) (drop from bytes) =
    ap (λ (x : List ℕ). take done (drop from bytes) ++ take 16 x) moved ∙ sym (take-add done 16 (drop from bytes)) in
    ap (λ (n : ℕ). take n new) place ∙ put ∙ ap (λ (x : List ℕ). x ++ lane) so_far ∙ append_assoc old (take done (drop from bytes)) lane ∙ ap (λ (x : List ℕ). old ++ x) joined

-- a head, and then a payload
pub head_put : (old room new head payload : List ℕ) (at k n : ℕ) → take (at + k) room ≡ take at old ++ head → take (at + k + n) new ≡ take (at + k) room ++ payload
    → take (at + k + n) new ≡ take at old ++ ((head ++ payload) ++ [])
head_put old room new head payload at k n is put =
    put ∙ ap (λ (x : List ℕ). x ++ payload) is
    ∙ append_assoc (take at old) head payload ∙ ap (λ (x : List ℕ). take at old ++ x) (sym (append-nil (head ++ payload)))

-- a payload, and then a tail
pub tail_put : (old room new payload tail rest : List ℕ) (at n k : ℕ) → at + n ≤ length room → length tail ≡ k → take (at + n) room ≡ take at old ++ payload → new ≡ take (at + n) room ++ (tail ++ rest)
    → take (at + n + k) new ≡ take at old ++ (payload ++ tail)
tail_put old room new payload tail rest at n k within size put is =
    piece_put room new tail rest (at + n) k within size is
    ∙ ap (λ (x : List ℕ). x ++ tail) put ∙ append_assoc (take at old) payload tail
