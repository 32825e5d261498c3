-- Segments that go home.
use Rattle.std.proofs.Common.{◌≡◌, ◌≤◌, ◌<◌, ◌+◌, ◌-◌, ℕ, true, false, List, [], ◌∷◌, ◌++◌, length, take, drop, refl, ap, ◌∙◌, arith, inl, inr, Some, None}
use Rattle.std.specs.Prelude.{slice_get, is_some, nat_le, ◌&&◌}
use Rattle.std.proofs.lemmas.Bool.{cases_Bool}
use Rattle.std.proofs.lemmas.List.{length-append, length-map}
use Rattle.seg_block.specs.Words.{seen}
use Rattle.seg_block.specs.declared.block.Block.{Block}
use Rattle.pipe_state.specs.Fetched.{Fetched, all_fetched}
use Rattle.pipe_state.specs.Chains.{first_len}
use Rattle.pipe_state.specs.Released.{FinishedBefore, blocks_in, bytes_in, first_goes, goes_home, left_after, names_of, skip_after}
use Rattle.pipe_state.specs.declared.arrival.Link.{Link}

-- A list of which the first goes, where so many bytes are consumed.
pub record Goes (n : ℕ) (segments : List Fetched) : Type 0 where
  pub fewer : first_len segments ≤ n
  pub some : 0 < length segments
  pub left : left_after n segments ≡ left_after (n - first_len segments) (drop 1 segments)
  pub skip : skip_after n segments ≡ skip_after (n - first_len segments) (drop 1 segments)
  pub within : n ≤ length (bytes_in segments) → n - first_len segments ≤ length (bytes_in (drop 1 segments))
  pub order : FinishedBefore segments → FinishedBefore (drop 1 segments)

order_behind : (s : Fetched) (segments : List Fetched) → FinishedBefore (s ∷ segments) → FinishedBefore segments
order_behind s [] order = tt
order_behind s (t ∷ segments) order = order.1

pub goes : (n : ℕ) (segments : List Fetched) → first_goes n segments ≡ true → Goes n segments
goes n [] first = cc (first)
goes n (s ∷ segments) first =
    let both : length (bytes_in (s ∷ segments)) ≡ length s.bytes + length (bytes_in segments) = length-append s.bytes (bytes_in segments) in
    record {
      fewer = grind (arith, first);
      some = omega arith;
      left = rw first refl;
      skip = rw first refl;
      within = λ within. omega (arith, both);
      order = order_behind s segments;
    }

-- where the first stays
pub record Stays (n : ℕ) (segments : List Fetched) : Type 0 where
  pub left : left_after n segments ≡ segments
  pub skip : skip_after n segments ≡ n
  pub first : n ≤ length (bytes_in segments) → FinishedBefore segments → n ≤ first_len segments

pub stays : (n : ℕ) (segments : List Fetched) → first_goes n segments ≡ false → Stays n segments
stays n [] first = record { left = refl; skip = refl; first = λ within order. within }
stays n (s ∷ []) first =
    let both : length (bytes_in (s ∷ [])) ≡ length s.bytes + 0 = length-append s.bytes [] in
    record { left = rw first refl; skip = rw first refl; first = λ within order. omega (arith, both) }
stays n (s ∷ t ∷ segments) first =
    record { left = rw first refl; skip = rw first refl; first = λ within order. grind (arith, first, order.0) }

-- ---- the first link
pub first_len_is : (links : List Link) (link : Link) → slice_get links 0 ≡ Some link → first_len (all_fetched links) ≡ length (seen link.front)
first_len_is [] link e = cc (e)
first_len_is (l ∷ links) link e = let same : l ≡ link = search (e) in ap (λ k. length (seen k.front)) same

first_goes_is : (links : List Link) (link : Link) (n : ℕ) → slice_get links 0 ≡ Some link → first_goes n (all_fetched links) ≡ (is_some link.end && nat_le (length (seen link.front)) n)
first_goes_is [] link n e = cc (e)
first_goes_is (l ∷ links) link n e = let same : l ≡ link = search (e) in ap (λ k. is_some k.end && nat_le (length (seen k.front)) n) same

pub going_stays : (links : List Link) (link : Link) (n : ℕ) → slice_get links 0 ≡ Some link → is_some link.end ≡ false → first_goes n (all_fetched links) ≡ false
going_stays links link n first going = first_goes_is links link n first ∙ ap (λ b. b && nat_le (length (seen link.front)) n) going

pub longer_stays : (links : List Link) (link : Link) (n : ℕ) → slice_get links 0 ≡ Some link → n < length (seen link.front) → first_goes n (all_fetched links) ≡ false
longer_stays links link n first more = let is = first_goes_is links link n first in grind (arith, is, more)

pub finished_goes : (links : List Link) (link : Link) (n : ℕ) → slice_get links 0 ≡ Some link → is_some link.end ≡ true → length (seen link.front) ≤ n → first_goes n (all_fetched links) ≡ true
finished_goes links link n first ended less = let is = first_goes_is links link n first in grind (arith, is, ended, less)

pub none_goes : (links : List Link) (n : ℕ) → slice_get links 0 ≡ None → first_goes n (all_fetched links) ≡ false
none_goes [] n e = refl
none_goes (l ∷ links) n e = cc (e)

-- ---- one more went home
pub fetched_behind : (links : List Link) → all_fetched (drop 1 links) ≡ drop 1 (all_fetched links)
fetched_behind [] = refl
fetched_behind (l ∷ links) = refl

pub blocks_apart : (segments : List Fetched) → take 1 (blocks_in segments) ++ blocks_in (drop 1 segments) ≡ blocks_in segments
blocks_apart [] = refl
blocks_apart (s ∷ segments) = refl

pub one_home : (home home' : List Block) (segments : List Fetched) → 0 < length segments → names_of home' ≡ names_of home ++ take 1 (blocks_in segments) → length home' ≡ length home + 1
one_home home home' [] some is = absurd (omega arith)
one_home home home' (s ∷ segments) some is =
    let n = ap length is in let a = length-append (names_of home) (take 1 (blocks_in (s ∷ segments))) in
    let b : length (names_of home') ≡ length home' = length-map home' _ in let c : length (names_of home) ≡ length home = length-map home _ in omega arith

pub one_fewer : (links : List Link) → 0 < length (all_fetched links) → length (drop 1 links) + 1 ≡ length links
one_fewer [] some = absurd (omega arith)
one_fewer (l ∷ links) some = omega arith

pub skip_falls : (n : ℕ) (segments : List Fetched) → skip_after n segments ≤ n
skip_falls n [] = omega arith
skip_falls n (s ∷ segments) = elim (cases_Bool (goes_home n s)) [
  | inl yes' ↦ let rest = skip_falls (n - length s.bytes) segments in rw yes' (omega arith)
  | inr no' ↦ rw no' (omega arith)
]
