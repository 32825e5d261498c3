-- The pieces of a line, one behind the other.
use Rattle.std.proofs.Common.{◌≡◌, ◌<◌, ◌+◌, ℕ, List, [], ◌∷◌, ◌++◌, length, take, drop, get_or, sym, ap, ◌∙◌, subst}
use Rattle.std.proofs.lemmas.Grind.{flat_map-append}
use Rattle.std.proofs.lemmas.List.{append-nil, take-append-drop, take_more}
use denote.Bor.{Bor}
use Rattle.edge_core.specs.Device.{SinkState, Takes, TakesFront}
use Rattle.edge_core.proofs.DeviceLemmas.{front_behind, front_more}
use Rattle.relay_engine.specs.Tell.{pieces_text}

abbrev now_of : Bor (List ℕ) → List ℕ
now_of piece = piece.now

pieces_at : (pieces : List (Bor (List ℕ))) (i : ℕ) (d : Bor (List ℕ)) → i < length pieces → pieces_text pieces ≡ (pieces_text (take i pieces) ++ (get_or pieces i d).now) ++ pieces_text (drop (i + 1) pieces)
pieces_at pieces i d within =
    let rest = pieces_text (drop (i + 1) pieces) in
    let piece = get_or pieces i d in
    sym (ap (λ (xs : List (Bor (List ℕ))). pieces_text xs) (take-append-drop (i + 1) pieces))
    ∙ flat_map-append now_of (take (i + 1) pieces) (drop (i + 1) pieces)
    ∙ ap (λ (xs : List (Bor (List ℕ))). pieces_text xs ++ rest) (take_more pieces i d within)
    ∙ ap (λ (t : List ℕ). t ++ rest) (flat_map-append now_of (take i pieces) (piece ∷ []))
    ∙ ap (λ (t : List ℕ). (pieces_text (take i pieces) ++ t) ++ rest) (append-nil piece.now)

-- a piece was broken off
pub broken_line : (a b c : SinkState) (pieces : List (Bor (List ℕ))) (i : ℕ) (d : Bor (List ℕ)) (count : ℕ) → i < length pieces → Takes a (pieces_text (take i pieces)) b → TakesFront b (get_or pieces i d).now count c → (total : ℕ) × TakesFront a (pieces_text pieces) total c
broken_line a b c pieces i d count within taken broken =
    let before = pieces_text (take i pieces) in
    let piece = (get_or pieces i d).now in
    let front = front_more a c (before ++ piece) (pieces_text (drop (i + 1) pieces)) (length before + count) (front_behind a b c before piece count taken broken) in
    (length before + count, subst (λ (t : List ℕ). TakesFront a t (length before + count) c) (sym (pieces_at pieces i d within)) front)
