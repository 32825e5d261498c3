-- Segments that go on, and what the reader has once it has heard of it.
use Rattle.std.proofs.Common.{◌≡◌, ◌≤◌, ◌+◌, ◌-◌, ℕ, suc, List, [], ◌∷◌, ◌++◌, length, take, drop, max, refl, ap, sym, ◌∙◌, subst, arith, Option, Some, None}
use Rattle.std.specs.Prelude.{slice_get, is_some, IfSome}
use Rattle.std.specs.List.{AllByRecursion}
use Rattle.std.proofs.lemmas.List.{length-append, map-append}
use Rattle.std.proofs.lemmas.Grind.{flat_map-append}
use mathlib.Core.List.{IsPrefix}
use Rattle.circular_buffer.specs.Buffer.{last_item}
use Rattle.seg_block.specs.Words.{marked, seen, SameFront}
use Rattle.seg_block.specs.declared.front.SegFront.{SegFront}
use Rattle.seg_block.specs.declared.tail.Mark.{Mark}
use Rattle.seg_block.specs.declared.tail.TailEnd.{TailEnd}
use Rattle.pipe_state.specs.Fetched.{Fetched, Continues, FitsLast, Fits, AllFit, IsEnd, all_fetched, arrive, arrived, continued, continue_last, fetched_front, fetched_of, label_of}
use Rattle.pipe_state.specs.Chains.{Counts, IsChain, IsLink, first_len}
use Rattle.pipe_state.specs.Released.{bytes_in}
use Rattle.pipe_state.specs.declared.arrival.Arrival.{Arrival}
use Rattle.pipe_state.specs.declared.arrival.Link.{Link}
use Rattle.pipe_state.proofs.ListLemmas.{all_before, all_behind, first_apart, last_apart, whole_prefix}

-- what the reader has of a segment once it has learnt a later mark
pub learnt : (f g : SegFront) (m : Mark) (end : Option TailEnd) → SameFront f g → IsPrefix (marked m) (seen g) → length (seen g) ≡ max (length (seen f)) (length (marked m)) → length (seen f) ≤ length (marked m)
    → fetched_of (record { front = g; end = end }) ≡ continued (fetched_front f) m end
learnt f g m end same p long short =
    let all : seen g ≡ marked m = whole_prefix (marked m) (seen g) p (omega (arith, long, short)) in
    λ i. record { label = record { part = same.0 i; id = same.1 i; size = same.2 i }; bytes = all i; finished = is_some end }

-- ---- the last segment
pub last_goes_on : (fetched : List Fetched) (segment : Fetched) (m : Mark) (end : Option TailEnd) → continue_last (fetched ++ segment ∷ []) m end ≡ fetched ++ continued segment m end ∷ []
last_goes_on [] segment m end = refl
last_goes_on (s ∷ []) segment m end = refl
last_goes_on (s ∷ t ∷ fetched) segment m end = ap (λ r. s ∷ r) (last_goes_on (t ∷ fetched) segment m end)

pub fits_the_last : (fetched : List Fetched) (segment : Fetched) (m : Mark) (end : Option TailEnd) → FitsLast (fetched ++ segment ∷ []) m end → Continues segment m end
fits_the_last [] segment m end fits = fits
fits_the_last (s ∷ []) segment m end fits = fits
fits_the_last (s ∷ t ∷ fetched) segment m end fits = fits_the_last (t ∷ fetched) segment m end fits

pub none_to_fit : (links : List Link) (m : Mark) (end : Option TailEnd) → links ≡ [] → FitsLast (all_fetched links) m end → ⊥
none_to_fit [] m end e fits = fits
none_to_fit (l ∷ links) m end e fits = cc (e)

-- the links, told from behind
behind : (links : List Link) (link : Link) → last_item links ≡ Some link → all_fetched links ≡ all_fetched (take (length links - 1) links) ++ fetched_of link ∷ []
behind links link last = ap all_fetched (sym (last_apart links link last)) ∙ map-append fetched_of (take (length links - 1) links) (link ∷ [])

pub last_link : (links : List Link) (link : Link) (m : Mark) (end : Option TailEnd) → last_item links ≡ Some link → FitsLast (all_fetched links) m end → Continues (fetched_of link) m end
last_link links link m end last fits =
    fits_the_last (all_fetched (take (length links - 1) links)) (fetched_of link) m end (subst (λ l. FitsLast l m end) (behind links link last) fits)

pub extended : (links links' : List Link) (link : Link) (g : SegFront) (m : Mark) (end : Option TailEnd) → last_item links ≡ Some link → FitsLast (all_fetched links) m end
    → links' ≡ take (length links - 1) links ++ record { front = g; end = end } ∷ []
    → SameFront link.front g → IsPrefix (marked m) (seen g) → length (seen g) ≡ max (length (seen link.front)) (length (marked m))
    → all_fetched links' ≡ continue_last (all_fetched links) m end
extended links links' link g m end last fits is same prefix long =
    let init : List Link = take (length links - 1) links in
    ap all_fetched is ∙ map-append fetched_of init (record { front = g; end = end } ∷ [])
    ∙ ap (λ s. all_fetched init ++ s ∷ []) (learnt link.front g m end same prefix long (last_link links link m end last fits).longer)
    ∙ sym (last_goes_on (all_fetched init) (fetched_of link) m end) ∙ ap (λ l. continue_last l m end) (sym (behind links link last))

-- what was consumed of the first segment is within it still
pub first_goes_on : (fetched : List Fetched) (m : Mark) (end : Option TailEnd) → FitsLast fetched m end → first_len fetched ≤ first_len (continue_last fetched m end)
first_goes_on [] m end fits = omega arith
first_goes_on (s ∷ []) m end fits = fits.longer
first_goes_on (s ∷ t ∷ fetched) m end fits = omega arith

-- how many bytes links have with one more behind them
held_behind : (links : List Link) (link : Link) → length (bytes_in (all_fetched (links ++ link ∷ []))) ≡ length (bytes_in (all_fetched links)) + length (seen link.front)
held_behind links link =
    let apart = ap (λ l. length (bytes_in l)) (map-append fetched_of links (link ∷ [])) in
    let bytes = ap length (flat_map-append (λ (s : Fetched). s.bytes) (all_fetched links) (fetched_of link ∷ [])) in
    let len = length-append (bytes_in (all_fetched links)) (bytes_in (fetched_of link ∷ [])) in
    let one = length-append (seen link.front) [] in
    omega arith

-- the chain is one still
pub extended_chain : (links links' : List Link) (skip : ℕ) (held held' : Option ℕ) (link : Link) (g : SegFront) (m : Mark) (end : Option TailEnd) → last_item links ≡ Some link → FitsLast (all_fetched links) m end
    → links' ≡ take (length links - 1) links ++ record { front = g; end = end } ∷ []
    → SameFront link.front g → IsPrefix (marked m) (seen g) → length (seen g) ≡ max (length (seen link.front)) (length (marked m))
    → ((n : ℕ) → Counts held n → Counts held' (n + (length (seen g) - length (seen link.front))))
    → IsChain links skip held → IsChain links' skip held'
extended_chain links links' skip held held' link g m end last fits is same prefix long more chain =
    let init : List Link = take (length links - 1) links in
    let label : label_of link.front ≡ label_of g = λ i. record { part = sym same.0 i; id = sym same.1 i; size = sym same.2 i } in
    let ends : IfSome end (IsEnd (label_of g)) = subst (λ l. IfSome end (IsEnd l)) label (last_link links link m end last fits).ends in
    let before = all_before IsLink init link (subst (AllByRecursion IsLink) (sym (last_apart links link last)) chain.ends) in
    let had = chain.within in
    let goes_on = first_goes_on (all_fetched links) m end fits in
    let now = ap first_len (extended links links' link g m end last fits is same prefix long) in
    let old_len = held_behind init link in
    let old = ap (λ l. length (bytes_in (all_fetched l))) (last_apart links link last) in
    let new_len = held_behind init (record { front = g; end = end }) in
    let new = ap (λ l. length (bytes_in (all_fetched l))) is in
    record {
      within = omega (arith, had, goes_on, now);
      ends = subst (AllByRecursion IsLink) (sym is) (all_behind IsLink init (record { front = g; end = end }) before ends);
      counted = subst (Counts held') (omega (arith, old_len, old, new_len, new, long)) (more (length (bytes_in (all_fetched links))) chain.counted);
    }

pub first_stays : (fetched : List Fetched) (segment : Fetched) (n : ℕ) → n ≤ first_len fetched → n ≤ first_len (fetched ++ segment ∷ [])
first_stays [] segment n within = omega (arith, within)
first_stays (s ∷ fetched) segment n within = within

pub first_arrives : (fetched : List Fetched) (inbox : List Arrival) (n : ℕ) → n ≤ first_len fetched → AllFit fetched inbox → n ≤ first_len (arrive fetched inbox)
first_arrives fetched [] n within fit = within
first_arrives fetched (a ∷ inbox) n within fit = first_arrives (arrived fetched a.front a.mark a.end) inbox n (first_arrival a.front fit.0) fit.1
  where
    first_arrival : (front : Option SegFront) → Fits fetched front a.mark a.end → n ≤ first_len (arrived fetched front a.mark a.end)
    first_arrival (Some f) fits = first_stays fetched (continued (fetched_front f) a.mark a.end) n within
    first_arrival None fits = let more = first_goes_on fetched a.mark a.end fits in omega arith

pub as_many : (fetched : List Fetched) (m : Mark) (end : Option TailEnd) → length (continue_last fetched m end) ≡ length fetched
as_many [] m end = refl
as_many (s ∷ []) m end = refl
as_many (s ∷ t ∷ fetched) m end = ap suc (as_many (t ∷ fetched) m end)

-- ---- the first arrival
arrived_no_fewer : (fetched : List Fetched) (front : Option SegFront) (m : Mark) (end : Option TailEnd) → length fetched ≤ length (arrived fetched front m end)
arrived_no_fewer fetched (Some f) m end = let e = length-append fetched (continued (fetched_front f) m end ∷ []) in omega arith
arrived_no_fewer fetched None m end = let e = as_many fetched m end in omega arith

pub arrive_no_fewer : (fetched : List Fetched) (inbox : List Arrival) → length fetched ≤ length (arrive fetched inbox)
arrive_no_fewer fetched [] = omega arith
arrive_no_fewer fetched (a ∷ inbox) = let one = arrived_no_fewer fetched a.front a.mark a.end in let rest = arrive_no_fewer (arrived fetched a.front a.mark a.end) inbox in omega arith

-- What the reader has after the first arrival, and what is left.
pub record HearsFirst (fetched fetched' : List Fetched) (inbox inbox' : List Arrival) : Type 0 where
  pub fit : AllFit fetched' inbox'
  pub same : arrive fetched' inbox' ≡ arrive fetched inbox
  pub one : length inbox' + 1 ≡ length inbox

pub hears_first : (fetched fetched' : List Fetched) (inbox inbox' : List Arrival) (a : Arrival) → slice_get inbox 0 ≡ Some a → fetched' ≡ arrived fetched a.front a.mark a.end → inbox' ≡ drop 1 inbox
    → AllFit fetched inbox → HearsFirst fetched fetched' inbox inbox'
hears_first fetched fetched' inbox inbox' a first now is fit =
    let apart : inbox ≡ a ∷ inbox' = first_apart inbox a first ∙ ap (λ l. a ∷ l) (sym is) in
    let count = ap length apart in
    record {
      fit = subst (λ l. AllFit l inbox') (sym now) (subst (AllFit fetched) apart fit).1;
      same = ap (λ l. arrive l inbox') now ∙ ap (arrive fetched) (sym apart);
      one = omega arith;
    }

pub first_fits : (fetched : List Fetched) (inbox : List Arrival) (a : Arrival) → slice_get inbox 0 ≡ Some a → AllFit fetched inbox → Fits fetched a.front a.mark a.end
first_fits fetched inbox a first fit = (subst (AllFit fetched) (first_apart inbox a first) fit).0

pub first_has_room : (fetched : List Fetched) (inbox : List Arrival) (a : Arrival) (room : ℕ) → slice_get inbox 0 ≡ Some a → length (arrive fetched inbox) ≤ room → length (arrived fetched a.front a.mark a.end) ≤ room
first_has_room fetched inbox a room first small =
    let apart = ap (λ l. length (arrive fetched l)) (first_apart inbox a first) in
    let more = arrive_no_fewer (arrived fetched a.front a.mark a.end) (drop 1 inbox) in omega arith
